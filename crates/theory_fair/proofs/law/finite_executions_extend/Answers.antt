use Rattle.theory_fair.proofs.Extends.{finite_extend}
use Rattle.theory_fair.proofs.law.finite_executions_extend.Goals as goal

pub returns : goal.returns
returns c = finite_extend
