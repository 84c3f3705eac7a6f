use Rattle.std.proofs.Common.{rules}
use Rattle.pres_ast.proofs.tree.Tree.+same.Goals as goal

pub returns-then-same_items : goal.returns-then-same_items
returns-then-same_items t c = search rules
