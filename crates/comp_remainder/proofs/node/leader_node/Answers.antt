use Rattle.std.proofs.Common.{rules}
use Rattle.comp_remainder.proofs.node.leader_node.Goals as goal

pub returns-then-output-answer : goal.returns-then-output-answer
returns-then-output-answer c = search rules

pub returns-else-output-answer : goal.returns-else-output-answer
returns-else-output-answer c = search rules
