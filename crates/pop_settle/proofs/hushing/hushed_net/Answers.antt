use Rattle.pop_settle.proofs.HushedLeaves.{hushed_is_net}
use Rattle.pop_settle.proofs.hushing.hushed_net.Goals as goal

pub of_valid-requires : goal.of_valid-requires
of_valid-requires c =
    rw (c.in_ok-leaves.ensures, c.in_ok-vars.ensures, c.as_slice.ensures, c.var_names.ensures.names, c.in_ok-combine.ensures)
    (hushed_is_net c.args.net.now c.args.proof.now c.leaf_count-formed.ensures.formed)
