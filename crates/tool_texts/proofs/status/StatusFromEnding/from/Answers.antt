use Rattle.std.proofs.Common.{rules}
use Rattle.tool_texts.proofs.status.StatusFromEnding.from.Goals as goal

pub returns-in-Differs : goal.returns-in-Differs
returns-in-Differs c = search rules
