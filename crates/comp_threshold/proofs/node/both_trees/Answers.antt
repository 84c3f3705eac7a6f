use Rattle.std.proofs.Common.{rules}
use Rattle.comp_threshold.proofs.node.both_trees.Goals as goal

pub returns-clause-on_true : goal.returns-clause-on_true
returns-clause-on_true c = search rules

pub returns-clause-on_false : goal.returns-clause-on_false
returns-clause-on_false c = search rules
