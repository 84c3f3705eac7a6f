use Rattle.std.proofs.Common.{rules}
use Rattle.pres_read.proofs.atom.at_most.Goals as goal

pub returns : goal.returns
returns c = search rules
