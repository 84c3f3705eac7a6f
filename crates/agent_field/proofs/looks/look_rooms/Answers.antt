use Rattle.std.proofs.Common.{rules}
use Rattle.agent_field.proofs.looks.look_rooms.Goals as goal

pub returns-clause-count : goal.returns-clause-count
returns-clause-count c = search rules
