use Rattle.std.proofs.Common.{rules}
use Rattle.pop_demo.proofs.case.counts.Goals as goal

pub returns : goal.returns
returns c = search rules
