use Rattle.pop_checker.proofs.PartWalk.{HoldsSoFar}
use Rattle.pop_checker.specs.ValidStable.{ValidPart, part_bound}
use Rattle.pop_checker.proofs.stable_whole.check_parts.Given as goal

abbrev pub invariant-loop-number : goal.invariant-loop-number
invariant-loop-number l = HoldsSoFar ValidPart part_bound l.net l.proof.leaves l.number l.bound
