use Rattle.std.proofs.Common.{vec_len}
use Rattle.cert_linear.specs.Sums.{IsTidy}
use Rattle.cert_linear.proofs.sum.Sum.clear.Given as goal

abbrev pub invariant-loop-variable : goal.invariant-loop-variable
invariant-loop-variable l = IsTidy l.self

abbrev pub decreases-loop-variable : goal.decreases-loop-variable
decreases-loop-variable l = vec_len l.self.touched
