use Rattle.std.proofs.Common.{not, ◌&&◌, ℕ, length, sym, subst, ◌∙◌}
use Rattle.std.specs.Prelude.{slice_get}
use Rattle.std.proofs.lemmas.Bool.{and_parts, not-true}
use Rattle.pop_leaf.specs.LeafModel.{IsMoveBelow, silent_move}
use Rattle.pop_leaf.proofs.Quiet.{All-slice_get}
use Rattle.pop_leaf.proofs.Within.{move_small}
use Rattle.theory_sets.specs.Stays.{takes_within}
use Rattle.cert_sets.specs.SetTests.{is_silent_move}
use Rattle.cert_sets.proofs.Woken.{finds_none, finds_beside}
use Rattle.cert_sets.proofs.sleep.woken_by.Goals as goal

pub is_waker-requires-clause-below : goal.is_waker-requires-clause-below
is_waker-requires-clause-below c = move_small c.args.leaf.now c.args.t c.move_at-taken.result c.requires.leaf_formed c.move_at-taken.ensures

pub woken_beside-requires-clause-below : goal.woken_beside-requires-clause-below
woken_beside-requires-clause-below c =
    subst (λ (n : ℕ). IsMoveBelow n c.move_at-taken.result) (sym c.requires.states)
    (All-slice_get (IsMoveBelow (length c.args.leaf.now.states)) c.args.leaf.now.moves c.args.t c.move_at-taken.result c.requires.leaf_formed.moves c.move_at-taken.ensures)

pub returns-then-not-is_waker : goal.returns-then-not-is_waker
returns-then-not-is_waker c =
    finds_none c.args.leaf.now c.args.awake.now c.args.members.now c.args.t c.move_at-taken.result c.move_at-taken.ensures (sym c.is_waker.ensures ∙ c.if-not-is_waker.true)

pub returns : goal.returns
returns c =
    let set = c.args.members.now in
    let taken = c.move_at-taken.result in
    let silent = is_silent_move (slice_get c.args.awake.now.moves c.args.t) in
    let parts = and_parts (not (silent_move taken)) (takes_within set taken && silent) (sym c.is_waker.ensures ∙ c.if-not-is_waker.false) in
    let both = and_parts (takes_within set taken) silent parts.1 in
    finds_beside c.args.leaf.now c.args.awake.now set c.args.t taken c.move_at-taken.ensures (not-true (silent_move taken) parts.0) both.0 both.1 c.woken_beside.result c.woken_beside.ensures
