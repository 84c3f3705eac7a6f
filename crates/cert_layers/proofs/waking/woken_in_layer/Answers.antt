use Rattle.std.proofs.Common.{sym, ◌∙◌, arith}
use Rattle.cert_layers.proofs.Asleep.{asleep_move, finds-below}
use Rattle.cert_layers.proofs.waking.woken_in_layer.Goals as goal

pub returns-then-not-may_wake : goal.returns-then-not-may_wake
returns-then-not-may_wake c =
    asleep_move c.args.leaf.now c.args.layer_of_move.now c.args.table.now c.args.layer c.args.taken c.requires.formed c.requires.table (omega (arith, c.ranges.layer.fits)) (rw c.state_count.ensures.count at (sym c.may_wake.ensures ∙ c.if-not-may_wake.true))

pub returns : goal.returns
returns c = finds-below c.args.leaf.now c.args.layer_of_move.now c.args.table.now c.args.layer c.args.taken c.least_woken.result (sym c.least_woken.ensures)
