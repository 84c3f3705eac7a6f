use Rattle.std.proofs.Common.{rules}
use Rattle.pres_read.specs.Views.{around_of}
use Rattle.pres_read.proofs.parser.at_number.Goals as goal

pub returns-in_err-constant : goal.returns-in_err-constant
returns-in_err-constant c = let step = c.in_err-constant.ensures.constant (around_of c.args.around.now) c.args.coefs.items in search rules

pub returns : goal.returns
returns c = let step = c.in_ok-constant.ensures.constant (around_of c.args.around.now) c.args.coefs.items in search rules
