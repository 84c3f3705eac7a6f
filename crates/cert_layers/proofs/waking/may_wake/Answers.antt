use Rattle.std.proofs.Common.{◌≡◌, sym, arith}
use Rattle.cert_layers.proofs.Asleep.{first_wakes_none}
use Rattle.cert_layers.proofs.waking.may_wake.Goals as goal

pub returns-then-layer-eq0 : goal.returns-then-layer-eq0
returns-then-layer-eq0 c =
    let first : c.args.layer ≡ 0 = omega arith in
    rw first (sym (first_wakes_none c.args.table.now c.args.taken c.args.states))
