use Rattle.std.proofs.Common.{rules}
use Rattle.pop_crowd.proofs.starts.size.Goals as goal

pub returns : goal.returns
returns c = search rules
