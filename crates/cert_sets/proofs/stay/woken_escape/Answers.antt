use Rattle.std.proofs.Common.{length, ap, ◌∙◌}
use Rattle.pop_leaf.specs.LeafModel.{LeafModel}
use Rattle.pop_leaf.proofs.HushedMoves.{hushed_length}
use Rattle.cert_sets.proofs.stay.woken_escape.Goals as goal

pub first_woken-requires-clause-moves : goal.first_woken-requires-clause-moves
first_woken-requires-clause-moves c =
    ap (λ (l : LeafModel). length l.moves) c.in_ok-awake.ensures ∙ hushed_length c.as_slice.result.now 0 c.args.leaf.now.moves
