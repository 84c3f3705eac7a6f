-- A line has one bundle.
use Rattle.std.proofs.Common.{◌≡◌, ℕ, List, Result, sym, ap, ◌∙◌}
use Rattle.cert_json.specs.declared.stable.StableBundle.{StableBundle}
use Rattle.tool_texts.specs.declared.refusal.Refusal.{Refusal}
use Rattle.tool_texts.proofs.OneValue.{one_value}
use Rattle.tool_bundles.specs.Bundles.{bundle_in, begun, IsBundleOf, IsBegunBy}

pub one_bundle : (line : List ℕ) (r s : Result StableBundle Refusal) → IsBundleOf line r → IsBundleOf line s → r ≡ s
one_bundle line r s p q = p.2 ∙ ap bundle_in (one_value line p.0 q.0 p.1 q.1) ∙ sym q.2

pub one_begin : (first second : List ℕ) (r s : Result (StableBundle × List ℕ) Refusal) → IsBegunBy first second r → IsBegunBy first second s → r ≡ s
one_begin first second r s p q = p.2 ∙ ap (λ v. begun v second) (one_value first p.0 q.0 p.1 q.1) ∙ sym q.2
