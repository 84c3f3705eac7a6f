use Rattle.std.proofs.Common.{arith}
use Rattle.pres_read.proofs.Values.{value_too_large}
use Rattle.pres_read.proofs.number.number_within.Goals as goal

pub returns-then-value-limit : goal.returns-then-value-limit
returns-then-value-limit c =
    value_too_large c.args.limit c.loop-digit.value c.args.digits.now c.loop-digit.digit-index (omega arith) c.loop-digit.invariant.value (omega arith)
