use Rattle.std.proofs.Common.{◌≡◌, take}
use Rattle.pop_net.proofs.copies.copy_leaves.Given as goal

abbrev pub invariant-loop-leaf : goal.invariant-loop-leaf
invariant-loop-leaf l = l.copies.items ≡ take l.leaf-index l.leaves
