use Rattle.std.proofs.Common.{rules}
use Rattle.base_lines.proofs.numbers.is_printed.Goals as goal

pub returns-in-len2-up : goal.returns-in-len2-up
returns-in-len2-up c = search rules
