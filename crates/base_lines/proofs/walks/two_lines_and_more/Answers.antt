use Rattle.std.proofs.Common.{rules}
use Rattle.base_lines.proofs.walks.two_lines_and_more.Goals as goal

pub returns-in-None : goal.returns-in-None
returns-in-None c = search rules
