use Rattle.std.proofs.Common.{◌≡◌, ◌+◌, ◌<◌, ℕ, Bool, Vec, Global, ◌∙◌, sym, subst, arith}
use Rattle.std.proofs.lemmas.Option.{slice_get-get_or}
use Rattle.terminal_test.specs.Restless.{AreMarkedTo}
use Rattle.terminal_test.proofs.RestlessStates.{marked_skip, marked_more}
use Rattle.terminal_test.proofs.restless.marked_states.Goals.{then-are_held, else-are_held}
use Rattle.terminal_test.proofs.restless.marked_states.Goals as goal

less_along : (p n m : ℕ) → p < m → n ≡ m → p < n
less_along p n m l e = omega (arith, l, e)

pub loop-pair-preserved : goal.loop-pair-preserved
loop-pair-preserved c =
    let pairs = c.args.pairs.now in
    let seen = c.args.seen.now in
    let k = c.loop-pair.pair-index in
    let inv = c.loop-pair.invariant in
    let here = slice_get-get_or pairs k _ c.loop-pair-test.true in
    let size = inv.size in
    elim c.if-are_held.branch [
      | then-are_held w ↦ subst (λ (v : Vec Bool Global). AreMarkedTo pairs seen v.items (k + 1)) (sym w.marks-is) (marked_more pairs seen c.loop-pair.marks.items k _ _ here inv (less_along _ _ _ (c.requires k _ c.loop-pair-test.true).0 size) (less_along _ _ _ (c.requires k _ c.loop-pair-test.true).1 size))
      | else-are_held w ↦ subst (λ (v : Vec Bool Global). AreMarkedTo pairs seen v.items (k + 1)) (sym w.marks-is) (marked_skip pairs seen c.loop-pair.marks.items k _ _ here inv (sym c.are_held.ensures ∙ w.if-are_held.false))
    ]
