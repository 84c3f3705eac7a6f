use Rattle.std.proofs.Common.{rules}
use Rattle.tool_texts.proofs.json.value_of.Goals as goal

pub returns-else-is_memory : goal.returns-else-is_memory
returns-else-is_memory c = search rules
