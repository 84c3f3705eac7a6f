use Rattle.std.proofs.Common.{rules}
use Rattle.base_lines.proofs.numbers.small_number.Goals as goal

pub returns-else-value-from : goal.returns-else-value-from
returns-else-value-from c = search rules
