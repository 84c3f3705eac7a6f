use Rattle.pop_net.proofs.Trees.{Walked}
use Rattle.pop_net.proofs.combination.combination_fault.Given as goal

abbrev pub invariant-loop-k : goal.invariant-loop-k
invariant-loop-k l = Walked l.leaves l.combine l.k l.depths
