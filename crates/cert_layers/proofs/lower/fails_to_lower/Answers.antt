use Rattle.std.proofs.Common.{sym, ap, ◌∙◌, not}
use Rattle.cert_layers.proofs.NotLower.{placed_below, not_lower_at}
use Rattle.cert_layers.proofs.lower.fails_to_lower.Goals as goal

pub is_lower-requires-clause-p_in : goal.is_lower-requires-clause-p_in
is_lower-requires-clause-p_in c =
    rw c.as_slice.ensures (placed_below c.args.leaf.now c.args.layers.now c.args.layer_of_move.now c.args.t c.in-Some.i c.move_at-taken.result c.index-layers-i.result c.requires.formed c.requires.placed c.move_at-taken.ensures c.in-Some.is).0

pub is_lower-requires-clause-q_in : goal.is_lower-requires-clause-q_in
is_lower-requires-clause-q_in c =
    rw c.as_slice.ensures (placed_below c.args.leaf.now c.args.layers.now c.args.layer_of_move.now c.args.t c.in-Some.i c.move_at-taken.result c.index-layers-i.result c.requires.formed c.requires.placed c.move_at-taken.ensures c.in-Some.is).1

pub is_lower-requires-clause-r_in : goal.is_lower-requires-clause-r_in
is_lower-requires-clause-r_in c =
    rw c.as_slice.ensures (placed_below c.args.leaf.now c.args.layers.now c.args.layer_of_move.now c.args.t c.in-Some.i c.move_at-taken.result c.index-layers-i.result c.requires.formed c.requires.placed c.move_at-taken.ensures c.in-Some.is).2

pub is_lower-requires-clause-s_in : goal.is_lower-requires-clause-s_in
is_lower-requires-clause-s_in c =
    rw c.as_slice.ensures (placed_below c.args.leaf.now c.args.layers.now c.args.layer_of_move.now c.args.t c.in-Some.i c.move_at-taken.result c.index-layers-i.result c.requires.formed c.requires.placed c.move_at-taken.ensures c.in-Some.is).3

pub returns-then-not-is_silent : goal.returns-then-not-is_silent
returns-then-not-is_silent c =
    ap not (rw c.as_slice.ensures at c.is_lower.ensures)
    ∙ sym (not_lower_at c.args.leaf.now c.args.layers.now c.args.layer_of_move.now c.args.t c.in-Some.i c.move_at-taken.result c.index-layers-i.result c.requires.placed c.move_at-taken.ensures c.in-Some.is (sym c.is_silent.ensures ∙ c.if-not-is_silent.true))
