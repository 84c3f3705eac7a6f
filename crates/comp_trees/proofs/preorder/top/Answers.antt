use Rattle.std.proofs.Common.{rules}
use Rattle.comp_trees.proofs.preorder.top.Goals as goal

pub returns : goal.returns
returns c = search rules
