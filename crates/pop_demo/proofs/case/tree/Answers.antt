use Rattle.std.proofs.Common.{rules}
use Rattle.pop_demo.proofs.case.tree.Goals as goal

pub returns-in_default : goal.returns-in_default
returns-in_default c = search rules
