use Rattle.std.proofs.Common.{rules}
use Rattle.base_lines.proofs.walks.one_line.Goals as goal

pub returns-in-Some : goal.returns-in-Some
returns-in-Some c = search rules
