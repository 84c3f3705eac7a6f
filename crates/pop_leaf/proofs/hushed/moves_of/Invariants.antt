use Rattle.std.proofs.Common.{◌≡◌, take}
use Rattle.pop_leaf.specs.Hushed.{hushed_moves}
use Rattle.pop_leaf.proofs.hushed.moves_of.Given as goal

abbrev pub invariant-loop-t : goal.invariant-loop-t
invariant-loop-t l = l.moves.items ≡ take l.t (hushed_moves l.kept 0 l.leaf.moves)
