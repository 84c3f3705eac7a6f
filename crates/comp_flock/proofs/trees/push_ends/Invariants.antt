use Rattle.std.proofs.Common.{◌≡◌, ◌++◌, ◌+◌, ◌-◌, map}
use Rattle.std.specs.Prelude.{reverse}
use Rattle.std.specs.List.{range_with_len}
use Rattle.comp_trees.specs.LeaderTree.{weighed_node}
use Rattle.comp_flock.specs.CountProof.{with_mix}
use Rattle.comp_flock.proofs.trees.push_ends.Given as goal

abbrev pub invariant-loop-j : goal.invariant-loop-j
invariant-loop-j l =
    l.nodes.items ≡ l.fn.nodes.items ++ reverse (map (λ p. weighed_node (with_mix l.leaf l.worths.most l.worths.list.now l.worths.k l.worths.top p)) (range_with_len (l.worths.k + 1 - l.j) l.j))
