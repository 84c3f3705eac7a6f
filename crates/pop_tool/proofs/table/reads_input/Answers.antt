use Rattle.std.proofs.Common.{rules}
use Rattle.pop_tool.proofs.table.reads_input.Goals as goal

pub returns-in-Demo : goal.returns-in-Demo
returns-in-Demo c = search rules
