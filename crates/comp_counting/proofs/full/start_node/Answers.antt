use Rattle.std.proofs.Common.{length, ap, arith}
use Rattle.comp_counting.proofs.Within.{start-short}
use Rattle.comp_counting.proofs.full.start_node.Goals as goal

pub node-requires : goal.node-requires
node-requires c = omega (arith, ap length c.in_ok-multipliers.ensures, start-short c.args.enough c.args.power c.requires.power)
