use Rattle.std.proofs.Common.{arith, ◌+◌}
use Rattle.cert_linear.proofs.Coefficients.{added_back, plus_row, wider}
use Rattle.cert_linear.specs.declared.sum.TheConstants.{SUM_LIMIT, PRODUCT_LIMIT, ROOM_LIMIT}
use Rattle.cert_linear.proofs.closing.agrees.Goals as goal

pub add-requires-clause-room : goal.add-requires-clause-room
add-requires-clause-room c = wider SUM_LIMIT ROOM_LIMIT c.args.sum.now (omega arith) c.requires.size

pub add-requires-2-clause-room : goal.add-requires-2-clause-room
add-requires-2-clause-room c = wider (SUM_LIMIT + PRODUCT_LIMIT) ROOM_LIMIT c.add.new.self (omega arith) (c.in_ok-add.ensures.size SUM_LIMIT c.requires.size)

pub returns-clause-value : goal.returns-clause-value
returns-clause-value c = λ other is. c.vanishes-agrees.ensures _ (plus_row other _ c.args.sum.now c.add.new.self is c.in_ok-add.ensures.plus)

pub returns-clause-stays : goal.returns-clause-stays
returns-clause-stays c = added_back c.args.row.now c.args.sum.now c.add.new.self c.add-2.new.self c.in_ok-add.ensures.plus c.in_ok-add-2.ensures.plus
