use Rattle.std.proofs.Common.{sym, ◌∙◌}
use Rattle.cert_layers.proofs.Asleep.{finds-placed}
use Rattle.cert_layers.proofs.waking.first_woken.Goals as goal
use Rattle.pop_leaf.proofs.Within.{move_small}

pub woken_in_layer-requires-clause-below : goal.woken_in_layer-requires-clause-below
woken_in_layer-requires-clause-below c = move_small c.args.leaf.now c.args.t c.move_at-taken.result c.requires.formed c.move_at-taken.ensures

pub returns : goal.returns
returns c =
    finds-placed c.args.leaf.now c.args.layer_of_move.now c.args.table.now c.args.t c.in_ok-layer.layer c.move_at-taken.result c.woken_in_layer.result c.move_at-taken.ensures (sym c.is_silent.ensures ∙ c.if-is_silent.false) c.in_ok-layer.was c.woken_in_layer.ensures
