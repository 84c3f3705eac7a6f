use Rattle.std.proofs.Common.{rules}
use Rattle.comp_trees.proofs.mixing.above.Goals as goal

pub returns : goal.returns
returns c = search rules
