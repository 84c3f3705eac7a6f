use Rattle.std.proofs.Common.{rules}
use Rattle.pres_ast.proofs.value.+value.Goals as goal

pub returns-in-Less : goal.returns-in-Less
returns-in-Less t c = search rules

pub returns-then-value-2 : goal.returns-then-value-2
returns-then-value-2 t c = search rules

pub returns-else-value-2 : goal.returns-else-value-2
returns-else-value-2 t c = search rules
