use Rattle.std.proofs.Common.{◌∙◌}
use Rattle.pop_leaf.proofs.HushedMoves.{hushed_formed}
use Rattle.pop_leaf.proofs.hushed.hushed_leaf.Goals as goal

pub of_valid-requires : goal.of_valid-requires
of_valid-requires c =
    rw (c.in_ok-states_of.ensures, c.moves.view_is ∙ c.in_ok-moves.ensures, c.in_ok-inputs_of.ensures, c.in_ok-outputs_of.ensures, c.in_ok-helpers_of.ensures)
    (hushed_formed c.args.leaf.now c.args.kept.now c.state_count-formed.ensures.formed)
