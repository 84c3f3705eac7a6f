-- A crowd is settled in one way.
use Rattle.std.proofs.Common.{◌≡◌, ℕ, Bool, true, false, nat_lt, List, Option, Some, None, Result, Ok, Err, sym, subst, ◌∙◌}
use Rattle.std.specs.Prelude.{MatchBool}
use Rattle.pop_leaf.specs.InputCrowd.{input_crowd}
use Rattle.pop_settle.specs.declared.limits.TheConstants.{TAKE_LIMIT}
use Rattle.pop_settle.proofs.Once.{are_one}
use Rattle.tool_texts.specs.declared.refusal.Refusal.{Refusal}
use Rattle.tool_texts.specs.declared.refusal.Refusal.TheVariants.{Settle}
use Rattle.tool_texts.specs.declared.output.Output.{Output}
use Rattle.tool_texts.specs.Steps.{After}
use Rattle.tool_texts.specs.Lines.{just_two}
use Rattle.tool_texts.proofs.Goes.{one_after}
use Rattle.cert_json.specs.declared.stable.StableBundle.{StableBundle}
use Rattle.pop_checker.specs.declared.stable_fault.StableRejected.{StableRejected}
use Rattle.pop_settle.specs.Chosen.{proof_at}
use Rattle.tool_proofs.specs.Settle.{settle_output, takes_allowed, IsSettled, OfJudged, OfBegun, OfLines, SettleGives}
use Rattle.tool_rejections.proofs.OneJudged.{one_judged}
use Rattle.tool_bundles.proofs.OneBundle.{one_begin}

module _ (bundle : StableBundle) (counts : List ℕ) (x y : Result Output Refusal) where
  one_settled : IsSettled bundle counts x → IsSettled bundle counts y → x ≡ y
  one_settled p q =
      let same = are_one bundle.net (proof_at counts bundle.proof) (input_crowd bundle.net counts) p.end p.takes p.settlement q.takes q.end q.settlement in
      p.is ∙ (λ i. Ok (settle_output bundle counts (sym same.0 i) (sym same.1 i))) ∙ sym q.is

  by_length : (b : Bool) → MatchBool b (x ≡ Err (Settle (takes_allowed bundle counts))) (IsSettled bundle counts x)
      → MatchBool b (y ≡ Err (Settle (takes_allowed bundle counts))) (IsSettled bundle counts y) → x ≡ y
  by_length true p q = p ∙ sym q
  by_length false p q = one_settled p q

  of_judged : (judged : Option StableRejected) → OfJudged bundle counts judged x → OfJudged bundle counts judged y → x ≡ y
  of_judged None p q = by_length (nat_lt TAKE_LIMIT (takes_allowed bundle counts)) p q
  of_judged (Some rejected) p q = p ∙ sym q

of_begun : (bundle : StableBundle) (counts : List ℕ) (x y : Result Output Refusal) → OfBegun bundle counts x → OfBegun bundle counts y → x ≡ y
of_begun bundle counts x y p q =
    of_judged bundle counts x y q.0 (subst (λ (o : Option StableRejected). OfJudged bundle counts o x) (one_judged bundle p.0 q.0 p.1 q.1) p.2) q.2

of_lines : (lines : List ℕ × List ℕ) (x y : Result Output Refusal) → OfLines lines x → OfLines lines y → x ≡ y
of_lines lines x y p q =
    let same = one_begin lines.0 lines.1 p.0 q.0 p.1 q.1 in
    one_after q.0 (λ begun. OfBegun begun.0 begun.1) (λ begin is. of_begun begin.0 begin.1) x y
    (subst (λ (r : Result (StableBundle × List ℕ) Refusal). After r (λ begun. OfBegun begun.0 begun.1) x) same p.2) q.2

pub one_settle : (lines : List (List ℕ)) (x y : Result Output Refusal) → SettleGives lines x → SettleGives lines y → x ≡ y
one_settle lines x y p q = one_after (just_two lines) OfLines (λ found is. of_lines found) x y p q
