use Rattle.std.proofs.Common.{rules}
use Rattle.tool_texts.proofs.lines.refused.Goals as goal

pub returns-in-Missing : goal.returns-in-Missing
returns-in-Missing c = search rules
