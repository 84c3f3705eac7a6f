use Rattle.std.proofs.Common.{inl, inr, sym, ◌∙◌}
use Rattle.cert_layers.proofs.PairEntries.{table-skip, table-enter}
use Rattle.cert_layers.proofs.pairs.enter_move.Goals as goal
use Rattle.pop_leaf.proofs.Within.{move_small}

pub returns-in_default : goal.returns-in_default
returns-in_default c =
    table-skip c.args.leaf.now c.args.layer_of_move.now c.args.t c.args.layers.now.items c.requires.table c.move_at-taken.result c.move_at-taken.ensures (inr c.in_default.is)

pub returns-then-is_silent : goal.returns-then-is_silent
returns-then-is_silent c =
    table-skip c.args.leaf.now c.args.layer_of_move.now c.args.t c.args.layers.now.items c.requires.table c.move_at-taken.result c.move_at-taken.ensures (inl (sym c.is_silent.ensures ∙ c.if-is_silent.true))

pub enter_pair-requires-clause-x_in : goal.enter_pair-requires-clause-x_in
enter_pair-requires-clause-x_in c = (move_small c.args.leaf.now c.args.t c.move_at-taken.result c.requires.formed c.move_at-taken.ensures).0

pub enter_pair-requires-clause-y_in : goal.enter_pair-requires-clause-y_in
enter_pair-requires-clause-y_in c = (move_small c.args.leaf.now c.args.t c.move_at-taken.result c.requires.formed c.move_at-taken.ensures).1

pub enter_pair-requires-2-clause-x_in : goal.enter_pair-requires-2-clause-x_in
enter_pair-requires-2-clause-x_in c = (move_small c.args.leaf.now c.args.t c.move_at-taken.result c.requires.formed c.move_at-taken.ensures).1

pub enter_pair-requires-2-clause-y_in : goal.enter_pair-requires-2-clause-y_in
enter_pair-requires-2-clause-y_in c = (move_small c.args.leaf.now c.args.t c.move_at-taken.result c.requires.formed c.move_at-taken.ensures).0

pub returns : goal.returns
returns c =
    let small = move_small c.args.leaf.now c.args.t c.move_at-taken.result c.requires.formed c.move_at-taken.ensures in
    rw (c.enter_pair-2.ensures.entered, c.enter_pair.ensures.entered)
    (table-enter c.args.leaf.now c.args.layer_of_move.now c.args.t c.args.layers.now.items c.requires.table c.move_at-taken.result c.move_at-taken.ensures c.in-Some.layer (sym c.is_silent.ensures ∙ c.if-is_silent.false) c.in-Some.is small.0 small.1)
