use Rattle.std.proofs.Common.{rules}
use Rattle.comp_threshold.proofs.whole.less.Goals as goal

pub returns : goal.returns
returns c = search rules
