use Rattle.std.proofs.Common.{rules}
use Rattle.comp_trees.proofs.preorder.no_leak_by.Goals as goal

pub returns-clause-list : goal.returns-clause-list
returns-clause-list c = search rules
