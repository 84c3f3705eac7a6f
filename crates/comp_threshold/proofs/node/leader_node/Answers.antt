use Rattle.std.proofs.Common.{rules}
use Rattle.comp_threshold.proofs.node.leader_node.Goals as goal

pub returns-then-output-b : goal.returns-then-output-b
returns-then-output-b c = search rules

pub returns-else-output-b : goal.returns-else-output-b
returns-else-output-b c = search rules
