use Rattle.std.proofs.Common.{rules}
use Rattle.pres_ast.proofs.value.is_congruent.Goals as goal

pub returns : goal.returns
returns c = search rules
