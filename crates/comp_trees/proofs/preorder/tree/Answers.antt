use Rattle.std.proofs.Common.{rules}
use Rattle.comp_trees.proofs.preorder.tree.Goals as goal

pub returns : goal.returns
returns c = search rules
