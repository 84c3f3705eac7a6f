-- What is checked has one output.
use Rattle.std.proofs.Common.{◌≡◌, ℕ, List, Option, Some, None, Result, Ok, sym, ap, subst, ◌∙◌}
use Rattle.cert_json.specs.declared.stable.StableBundle.{StableBundle}
use Rattle.pop_checker.specs.declared.stable_fault.StableRejected.{StableRejected}
use Rattle.tool_texts.specs.declared.refusal.Refusal.{Refusal}
use Rattle.tool_texts.specs.declared.output.Output.{Output}
use Rattle.tool_texts.specs.Steps.{After}
use Rattle.tool_texts.specs.Lines.{just_one}
use Rattle.tool_texts.proofs.Goes.{one_after}
use Rattle.tool_rejections.proofs.OneJudged.{one_judged}
use Rattle.tool_bundles.proofs.OneBundle.{one_bundle}
use Rattle.tool_proofs.specs.Check.{answered, OfJudged, OfBundle, OfLine, CheckGives}
use Rattle.tool_proofs.proofs.Told.{one_text}

of_judged : (bundle : StableBundle) (judged : Option StableRejected) (x y : Result Output Refusal) → OfJudged bundle judged x → OfJudged bundle judged y → x ≡ y
of_judged bundle None x y p q = p.2 ∙ ap (λ (t : List ℕ). Ok (answered t)) (one_text bundle.net bundle.proof p.0 q.0 p.1 q.1) ∙ sym q.2
of_judged bundle (Some rejected) x y p q = p ∙ sym q

of_bundle : (bundle : StableBundle) (x y : Result Output Refusal) → OfBundle bundle x → OfBundle bundle y → x ≡ y
of_bundle bundle x y p q =
    of_judged bundle q.0 x y (subst (λ (o : Option StableRejected). OfJudged bundle o x) (one_judged bundle p.0 q.0 p.1 q.1) p.2) q.2

of_line : (line : List ℕ) (x y : Result Output Refusal) → OfLine line x → OfLine line y → x ≡ y
of_line line x y p q =
    let same = one_bundle line p.0 q.0 p.1 q.1 in
    one_after q.0 OfBundle (λ bundle is. of_bundle bundle) x y (subst (λ (r : Result StableBundle Refusal). After r OfBundle x) same p.2) q.2

pub one_check : (lines : List (List ℕ)) (x y : Result Output Refusal) → CheckGives lines x → CheckGives lines y → x ≡ y
one_check lines x y p q = one_after (just_one lines) OfLine (λ line is. of_line line) x y p q
