use Rattle.std.proofs.Common.{length, refl, arith, ℕ, subst, ◌≡◌}
use Rattle.std.proofs.lemmas.Option.{slice_get_read}
use Rattle.cert_layers.proofs.Filled.{Filled, filled-enter, filled-refused, filled-layer_of_move}
use Rattle.cert_layers.proofs.move_layers.layers_of_moves.Goals as goal

pub returns-then-not-enter_layer-clause-layer_of_move : goal.returns-then-not-enter_layer-clause-layer_of_move
returns-then-not-enter_layer-clause-layer_of_move c =
    let is = slice_get_read c.args.layers.now (length c.args.layers.now) c.loop-i.i c.index-layers-i.result refl c.loop-i-test.true c.index-layers-i.is in
    filled-refused c.args.leaf.now c.args.layers.now c.loop-i.i c.loop-i.layer_of_move.items c.index-layers-i.result c.loop-i.invariant is (rw c.state_count-states.ensures.count at c.if-not-enter_layer.ensures.entered)

pub loop-i-preserved : goal.loop-i-preserved
loop-i-preserved c =
    let is = slice_get_read c.args.layers.now (length c.args.layers.now) c.loop-i.i c.index-layers-i.result refl c.loop-i-test.true c.index-layers-i.is in
    filled-enter c.args.leaf.now c.args.layers.now c.loop-i.i c.loop-i.layer_of_move.items c.index-layers-i.result c.enter_layer.new.layer_of_move.items c.loop-i.invariant is (rw c.state_count-states.ensures.count at c.if-not-enter_layer.ensures.entered)

pub returns-clause-layer_of_move : goal.returns-clause-layer_of_move
returns-clause-layer_of_move c =
    let all : c.loop-i.i ≡ length c.args.layers.now = omega arith in
    rw c.from_vec.ensures (filled-layer_of_move c.args.leaf.now c.args.layers.now c.loop-i.layer_of_move.items (subst (λ (n : ℕ). Filled c.args.leaf.now c.args.layers.now n c.loop-i.layer_of_move.items) all c.loop-i.invariant))
