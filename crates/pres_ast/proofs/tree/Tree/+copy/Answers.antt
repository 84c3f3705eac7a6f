use Rattle.std.proofs.Common.{rules}
use Rattle.pres_ast.proofs.tree.Tree.+copy.Goals as goal

pub returns : goal.returns
returns t c = search rules
