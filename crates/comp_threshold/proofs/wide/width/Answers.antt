use Rattle.std.proofs.Common.{rules}
use Rattle.comp_threshold.proofs.wide.width.Goals as goal

pub loop-a-init : goal.loop-a-init
loop-a-init c = search rules
