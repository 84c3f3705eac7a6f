use Rattle.std.proofs.Common.{◌∙◌, ap, length}
use Rattle.std.proofs.lemmas.List.FromFn.{length-map-range_with_len}
use Rattle.pop_leaf.specs.LeafModel.{LeafModel}
use Rattle.comp_remainder.specs.RemainderLeaf.{remainder_state_count, remainder_state_name}
use Rattle.comp_remainder.proofs.Valid.{part-as}
use Rattle.comp_remainder.proofs.whole.leaf_proof.Goals as goal

pub both_trees-requires : goal.both_trees-requires
both_trees-requires c =
    record { states = rw c.new-number.ensures (ap (λ (l : LeafModel). length l.states) c.requires.built ∙ length-map-range_with_len (remainder_state_name c.args.modulus) 0 (remainder_state_count c.args.modulus)) }

pub returns : goal.returns
returns c =
    part-as c.args.coefs.now c.args.modulus c.args.rest c.args.spare c.args.leaf.now c.in_ok-pred.pred c.in_ok-layers.layers c.in_ok-on_true.on_true c.in_ok-on_true.on_false c.requires.built c.in_ok-pred.ensures (rw c.new-number.ensures at c.in_ok-layers.ensures) (rw c.new-number.ensures at c.in_ok-on_true.ensures.on_true) (rw c.new-number.ensures at c.in_ok-on_true.ensures.on_false)
