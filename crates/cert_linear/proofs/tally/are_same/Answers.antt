use Rattle.std.proofs.Common.{◌≡◌}
use Rattle.std.proofs.lemmas.Slice.Eq.{slice_eq-Decides}
use Rattle.std.specs.Bool.{Decides}
use Rattle.cert_linear.proofs.Parts.{same_term}
use Rattle.cert_linear.proofs.tally.are_same.Goals as goal

pub returns : goal.returns
returns c =
    let told : Decides c.eq.result (c.args.terms.now ≡ c.args.other.now) = slice_eq-Decides (λ a b. same_term a b) _ _ _ c.eq.ensures in
    λ yes. told.0 yes
