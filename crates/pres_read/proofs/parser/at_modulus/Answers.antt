use Rattle.std.proofs.Common.{rules}
use Rattle.pres_read.specs.Views.{around_of}
use Rattle.pres_read.proofs.parser.at_modulus.Goals as goal

pub returns-in_err-tree : goal.returns-in_err-tree
returns-in_err-tree c = let step = c.in_err-tree.ensures (around_of c.args.around.now) in search rules

pub returns : goal.returns
returns c = let step = c.in_ok-tree.ensures (around_of c.args.around.now) in search rules
