use Rattle.std.proofs.Common.{rules}
use Rattle.pres_read.specs.Views.{around_of}
use Rattle.pres_read.proofs.parser.at_unit.Goals as goal

pub returns-in_default : goal.returns-in_default
returns-in_default c = let step = c.at_first.ensures (around_of c.args.around.now) in search rules
