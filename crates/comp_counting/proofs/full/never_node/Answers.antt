use Rattle.std.proofs.Common.{length, ap, arith}
use Rattle.comp_counting.proofs.Within.{never-short}
use Rattle.comp_counting.proofs.full.never_node.Goals as goal

pub node-requires : goal.node-requires
node-requires c = omega (arith, ap length c.in_ok-multipliers.ensures, never-short c.args.power c.requires)
