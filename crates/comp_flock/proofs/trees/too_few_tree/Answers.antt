use Rattle.std.proofs.Common.{length, ap, arith}
use Rattle.comp_flock.proofs.Building.{first-short}
use Rattle.comp_flock.proofs.trees.too_few_tree.Goals as goal

pub full_tree-requires-clause-first : goal.full_tree-requires-clause-first
full_tree-requires-clause-first c = omega (arith, ap length c.in_ok-first.ensures, first-short c.args.worths.now.most c.args.worths.now.list.now c.args.worths.now.k c.args.worths.now.k c.args.worths.now.are.few c.args.worths.now.target)
