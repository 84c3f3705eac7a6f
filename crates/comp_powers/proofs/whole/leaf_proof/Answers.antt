use Rattle.std.proofs.Common.{◌∙◌, ap, rules, w64, SFits}
use Rattle.std.proofs.lemmas.Int.{to_z-of_z}
use Rattle.comp_powers.specs.PowersProof.{powers_pred_of}
use Rattle.comp_powers.proofs.Parts.{part-as, are_states}
use Rattle.comp_powers.proofs.whole.leaf_proof.Goals as goal

pub returns : goal.returns
returns c =
    let fits : SFits w64 c.args.bound = search rules in
    let pred = c.in_ok-pred.ensures ∙ ap (powers_pred_of c.args.coefs.now) (to_z-of_z w64 c.args.bound fits) in
    part-as c.args.coefs.now c.args.bound c.args.k c.args.spare c.args.leaf.now c.in_ok-pred.pred c.in_ok-layers.layers c.in_ok-on_true.on_true c.in_ok-on_false.on_false c.requires.leaf pred c.in_ok-layers.ensures c.in_ok-on_true.ensures c.in_ok-on_false.ensures

pub invariant_of-powers : goal.invariant_of-powers
invariant_of-powers c = record { states = are_states c.args.coefs.now c.args.bound c.args.k c.args.spare c.args.leaf.now c.as_slice.result.now c.requires.range c.requires.leaf (c.as_slice.ensures.value ∙ c.in_ok-roles.ensures) }
