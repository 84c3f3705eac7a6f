use Rattle.std.proofs.Common.{rules}
use Rattle.pop_tool.proofs.tool.is_plain.Goals as goal

pub returns-in-Ok : goal.returns-in-Ok
returns-in-Ok c = search rules
