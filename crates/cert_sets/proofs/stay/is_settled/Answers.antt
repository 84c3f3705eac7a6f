use Rattle.std.proofs.Common.{length, ap, sym, subst, ◌∙◌}
use Rattle.pop_leaf.specs.LeafModel.{LeafModel, IsLeaf}
use Rattle.pop_leaf.proofs.HushedMoves.{hushed_formed, hushed_length}
use Rattle.cert_base.specs.ValidLayers.{moves_of_layers}
use Rattle.cert_sets.proofs.GoodSets.{settled_by}
use Rattle.cert_sets.proofs.stay.is_settled.Goals as goal

pub first_woken-requires-clause-formed : goal.first_woken-requires-clause-formed
first_woken-requires-clause-formed c =
    let given = c.args.given.now in
    subst (λ (l : LeafModel). IsLeaf l) (sym given.alone) (hushed_formed given.leaf.now (moves_of_layers given.layers.now) given.formed)

pub first_woken-requires-clause-moves : goal.first_woken-requires-clause-moves
first_woken-requires-clause-moves c =
    let given = c.args.given.now in
    ap (λ (l : LeafModel). length l.moves) given.alone ∙ hushed_length (moves_of_layers given.layers.now) 0 given.leaf.now.moves

pub returns : goal.returns
returns c =
    let given = c.args.given.now in
    settled_by given.leaf.now (moves_of_layers given.layers.now) c.args.members.now given.kept.now c.first_woken.result c.is_none.result c.is_none.ensures given.alone c.first_woken.ensures
