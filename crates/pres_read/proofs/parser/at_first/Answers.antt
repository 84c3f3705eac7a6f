use Rattle.std.proofs.Common.{rules}
use Rattle.pres_read.proofs.parser.at_first.Goals as goal

pub returns-in_default : goal.returns-in_default
returns-in_default c a = let step = c.at_term.ensures a in search rules
