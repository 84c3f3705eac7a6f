use Rattle.std.proofs.Common.{◌∙◌, ◌≤◌, length, ap, arith}
use Rattle.comp_flock.proofs.Building.{with-short}
use Rattle.comp_flock.proofs.trees.with_node.Goals as goal

pub weighed-requires : goal.weighed-requires
weighed-requires c =
    let low : c.args.worths.now.top ≤ c.args.worths.now.k = omega (arith, c.requires.top, c.requires.prefix) in
    omega (arith, ap length (c.as_slice.ensures.value ∙ c.in_ok-multipliers.ensures), with-short c.args.worths.now.most c.args.worths.now.list.now c.args.worths.now.k c.args.worths.now.top c.args.worths.now.are.few c.args.leaf.now c.args.p c.requires.states low c.requires.prefix)
