use Rattle.std.proofs.Common.{rules}
use Rattle.pres_read.proofs.sum.grown.Goals as goal

pub returns : goal.returns
returns c = search rules
