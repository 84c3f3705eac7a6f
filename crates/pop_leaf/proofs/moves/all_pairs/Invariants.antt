use Rattle.pop_leaf.proofs.Tables.{IsStill}
use Rattle.pop_leaf.proofs.moves.all_pairs.Given as goal

abbrev pub invariant-loop-k : goal.invariant-loop-k
invariant-loop-k l = IsStill l.states l.k l.pairs.items
