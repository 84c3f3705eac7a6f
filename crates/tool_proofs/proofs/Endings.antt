-- No command of proofs ends by a fault of reading.
use Rattle.std.proofs.Common.{◌≡◌, ℕ, Bool, true, false, nat_lt, List, Option, Some, None, Result, Ok, Err, sym, subst}
use Rattle.std.specs.Prelude.{MatchBool}
use Rattle.cert_json.specs.declared.stable.StableBundle.{StableBundle}
use Rattle.pop_checker.specs.declared.stable_fault.StableRejected.{StableRejected}
use Rattle.pop_settle.specs.declared.limits.TheConstants.{TAKE_LIMIT}
use Rattle.tool_texts.specs.declared.refusal.Refusal.{Refusal}
use Rattle.tool_texts.specs.declared.refusal.Refusal.TheVariants.{Settle as Settled}
use Rattle.tool_texts.specs.declared.output.Output.{Output}
use Rattle.tool_texts.specs.Lines.{just_one, just_two}
use Rattle.tool_texts.proofs.Goes.{after_keeps}
use Rattle.tool_bundles.proofs.OtherEndings.{IsOther, refused}
use Rattle.tool_proofs.specs.Check.{OfJudged, OfBundle, OfLine, CheckGives}
use Rattle.tool_proofs.specs.Show.{OfJudged as OfShown, OfBundle as OfShownBundle, OfLine as OfShownLine, ShowGives}
use Rattle.tool_proofs.specs.Settle.{takes_allowed, IsSettled, OfJudged as OfSettleJudged, OfBegun, OfLines as OfSettleLines, SettleGives}

judged_other : (bundle : StableBundle) (judged : Option StableRejected) (given : Result Output Refusal) → OfJudged bundle judged given → IsOther given
judged_other bundle None given is = subst IsOther (sym is.2) (λ e. absurd cc)
judged_other bundle (Some rejected) given is = subst IsOther (sym is) (λ e. absurd cc)

pub check_other : (lines : List (List ℕ)) (given : Result Output Refusal) → CheckGives lines given → IsOther given
check_other lines =
    after_keeps IsOther refused (just_one lines) OfLine
    (λ line given is. after_keeps IsOther refused is.0 OfBundle (λ bundle given is. judged_other bundle is.0 given is.2) given is.2)

shown_other : (bundle : StableBundle) (judged : Option StableRejected) (given : Result Output Refusal) → OfShown bundle judged given → IsOther given
shown_other bundle None given is = subst IsOther (sym is.2) (λ e. absurd cc)
shown_other bundle (Some rejected) given is = subst IsOther (sym is) (λ e. absurd cc)

pub show_other : (lines : List (List ℕ)) (given : Result Output Refusal) → ShowGives lines given → IsOther given
show_other lines =
    after_keeps IsOther refused (just_one lines) OfShownLine
    (λ line given is. after_keeps IsOther refused is.0 OfShownBundle (λ bundle given is. shown_other bundle is.0 given is.2) given is.2)

settled_other : (bundle : StableBundle) (counts : List ℕ) (judged : Option StableRejected) (given : Result Output Refusal) → OfSettleJudged bundle counts judged given → IsOther given
settled_other bundle counts None given is = by_length (nat_lt TAKE_LIMIT (takes_allowed bundle counts)) is
  where
    by_length : (b : Bool) → MatchBool b (given ≡ Err (Settled (takes_allowed bundle counts))) (IsSettled bundle counts given) → IsOther given
    by_length true is = subst IsOther (sym is) (refused (Settled (takes_allowed bundle counts)))
    by_length false is = subst IsOther (sym is.is) (λ e. absurd cc)
settled_other bundle counts (Some rejected) given is = subst IsOther (sym is) (λ e. absurd cc)

pub settle_other : (lines : List (List ℕ)) (given : Result Output Refusal) → SettleGives lines given → IsOther given
settle_other lines =
    after_keeps IsOther refused (just_two lines) OfSettleLines
    (λ found given is. after_keeps IsOther refused is.0 (λ begun. OfBegun begun.0 begun.1) (λ begin given is. settled_other begin.0 begin.1 is.0 given is.2) given is.2)
