use Rattle.std.proofs.Common.{◌≡◌, take}
use Rattle.terminal_test.specs.Loud.{pairs_of_moves}
use Rattle.terminal_test.proofs.loud.loud_pairs.Given as goal

abbrev pub invariant-loop-t : goal.invariant-loop-t
invariant-loop-t l = l.pairs.items ≡ pairs_of_moves (take l.t l.leaf.moves)
