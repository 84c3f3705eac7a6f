use Rattle.std.proofs.Common.{◌≡◌, ◌++◌, length}
use Rattle.std.specs.Prelude.{reverse}
use Rattle.comp_trees.proofs.preorder.push_reversed.Given as goal

abbrev pub invariant-loop-node : goal.invariant-loop-node
invariant-loop-node l = l.nodes.items ++ reverse l.ends.items ≡ l.fn.nodes.items ++ reverse l.fn.ends.items

abbrev pub decreases-loop-node : goal.decreases-loop-node
decreases-loop-node l = length l.ends.items
