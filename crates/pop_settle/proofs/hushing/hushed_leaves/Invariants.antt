use Rattle.std.proofs.Common.{◌≡◌, take}
use Rattle.pop_settle.specs.HushedNet.{hushed_leaves}
use Rattle.pop_settle.proofs.hushing.hushed_leaves.Given as goal

abbrev pub invariant-loop-i : goal.invariant-loop-i
invariant-loop-i l = l.leaves.items ≡ take l.i (hushed_leaves l.net.leaves l.proof.leaves)
