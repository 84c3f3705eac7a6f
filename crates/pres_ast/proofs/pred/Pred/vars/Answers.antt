use Rattle.std.proofs.Common.{rules}
use Rattle.pres_ast.proofs.pred.Pred.vars.Goals as goal

pub returns-clause-value : goal.returns-clause-value
returns-clause-value c = search rules
