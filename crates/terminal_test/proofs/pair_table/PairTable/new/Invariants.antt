use Rattle.std.proofs.Common.{◌≡◌, map, take}
use Rattle.pop_leaf.specs.LeafModel.{LeafModel}
use Rattle.terminal_test.specs.Loud.{pairs_of_moves}
use Rattle.terminal_test.proofs.pair_table.PairTable.new.Given as goal

abbrev pub invariant-loop-leaf : goal.invariant-loop-leaf
invariant-loop-leaf l = l.loud.items ≡ map (λ (leaf : LeafModel). pairs_of_moves leaf.moves) (take l.leaf l.net.leaves)
