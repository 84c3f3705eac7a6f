use Rattle.std.proofs.Common.{rules, subst, w64, SFits}
use Rattle.std.proofs.lemmas.Int.{to_z-of_z}
use Rattle.comp_threshold.specs.Built.{IsThreshold}
use Rattle.comp_threshold.proofs.whole.leaf_of_width.Goals as goal

pub returns : goal.returns
returns c =
    let fits : SFits w64 c.args.bound = search rules in
    subst (λ z. IsThreshold c.args.coefs.now z c.in_ok-leaf.leaf c.in_ok-proof.proof) (to_z-of_z w64 c.args.bound fits) c.in_ok-proof.ensures

pub threshold_leaf-requires-clause-inputs : goal.threshold_leaf-requires-clause-inputs
threshold_leaf-requires-clause-inputs c = record { some = c.requires.sum.some; few = c.requires.sum.few }
