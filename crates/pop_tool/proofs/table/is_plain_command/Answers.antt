use Rattle.std.proofs.Common.{rules}
use Rattle.pop_tool.proofs.table.is_plain_command.Goals as goal

pub returns-in-Watch : goal.returns-in-Watch
returns-in-Watch c = search rules
