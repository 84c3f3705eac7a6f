use Rattle.std.proofs.Common.{◌∙◌, length, ap, arith}
use Rattle.comp_flock.proofs.Building.{without-short}
use Rattle.comp_flock.proofs.trees.without_node.Goals as goal

pub weighed-requires : goal.weighed-requires
weighed-requires c = omega (arith, ap length (c.as_slice.ensures.value ∙ c.in_ok-multipliers.ensures), without-short c.args.worths.now.most c.args.worths.now.list.now c.args.worths.now.k c.args.worths.now.top c.args.worths.now.are.few c.args.worths.now.powers)
