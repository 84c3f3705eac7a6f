use Rattle.std.proofs.Common.{arith}
use Rattle.cert_base.proofs.FlowRows.{move_below, length-rows, rows_moved}
use Rattle.cert_base.proofs.flow.enter_move.Goals as goal

pub enter-requires : goal.enter-requires
enter-requires c =
    let below = move_below c.args.leaf.now c.args.t c.move_at-taken.result c.move_at-taken.ensures c.variable_of_move-variable.ensures.formed in
    let long = length-rows c.args.leaf.now c.args.t c.args.rows.now.items c.requires.rows in
    omega (arith, below.0, long)

pub enter-requires-2 : goal.enter-requires-2
enter-requires-2 c =
    let below = move_below c.args.leaf.now c.args.t c.move_at-taken.result c.move_at-taken.ensures c.variable_of_move-variable.ensures.formed in
    let long = length-rows c.args.leaf.now c.args.t c.args.rows.now.items c.requires.rows in
    omega (arith, below.1, long, c.in_ok-enter.ensures.len)

pub enter-requires-3 : goal.enter-requires-3
enter-requires-3 c =
    let below = move_below c.args.leaf.now c.args.t c.move_at-taken.result c.move_at-taken.ensures c.variable_of_move-variable.ensures.formed in
    let long = length-rows c.args.leaf.now c.args.t c.args.rows.now.items c.requires.rows in
    omega (arith, below.2, long, c.in_ok-enter.ensures.len, c.in_ok-enter-2.ensures.len)

pub enter-requires-4 : goal.enter-requires-4
enter-requires-4 c =
    let below = move_below c.args.leaf.now c.args.t c.move_at-taken.result c.move_at-taken.ensures c.variable_of_move-variable.ensures.formed in
    let long = length-rows c.args.leaf.now c.args.t c.args.rows.now.items c.requires.rows in
    omega (arith, below.3, long, c.in_ok-enter.ensures.len, c.in_ok-enter-2.ensures.len, c.in_ok-enter-3.ensures.len)

pub returns : goal.returns
returns c =
    rows_moved c.args.leaf.now c.args.t _ c.move_at-taken.result c.args.rows.now.items c.enter.new.rows.items c.enter-2.new.rows.items c.enter-3.new.rows.items c.enter-4.new.rows.items c.variable_of_move-variable.ensures.formed c.move_at-taken.ensures (omega (arith, c.variable_of_move-variable.ensures.value)) c.requires.rows c.in_ok-enter.ensures.entered c.in_ok-enter-2.ensures.entered c.in_ok-enter-3.ensures.entered c.in_ok-enter-4.ensures.entered
