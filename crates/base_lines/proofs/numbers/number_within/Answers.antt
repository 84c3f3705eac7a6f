use Rattle.std.proofs.Common.{rules}
use Rattle.base_lines.proofs.numbers.number_within.Goals as goal

pub returns-else-from-value : goal.returns-else-from-value
returns-else-from-value c = search rules
