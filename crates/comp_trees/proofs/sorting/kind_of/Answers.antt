use Rattle.std.proofs.Common.{rules}
use Rattle.comp_trees.proofs.sorting.kind_of.Goals as goal

pub returns-then-t-leaders : goal.returns-then-t-leaders
returns-then-t-leaders c = search rules

pub returns-then-t-2 : goal.returns-then-t-2
returns-then-t-2 c = search rules

pub returns-else-t-2 : goal.returns-else-t-2
returns-else-t-2 c = search rules
