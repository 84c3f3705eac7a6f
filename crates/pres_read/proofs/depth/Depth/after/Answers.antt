use Rattle.std.proofs.Common.{rules}
use Rattle.pres_read.proofs.depth.Depth.after.Goals as goal

pub returns : goal.returns
returns c = search rules
