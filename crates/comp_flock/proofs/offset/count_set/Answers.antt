use Rattle.std.proofs.Common.{◌∙◌, ◌≤◌, ℕ, Bool, ap, arith}
use Rattle.std.specs.Prelude.{if◌then◌else◌}
use Rattle.comp_flock.proofs.Offsets.{counted-most, counted-more}
use Rattle.comp_flock.proofs.offset.count_set.Goals as goal

pub overflow_add-count : goal.overflow_add-count
overflow_add-count c =
    let most = counted-most c.args.n c.loop-q.q in
    omega (arith, most, c.loop-q.invariant, c.one_if-count.ensures.small, c.loop-q-test.true, c.loop-q.auto.q-end, c.requires)

pub loop-q-preserved : goal.loop-q-preserved
loop-q-preserved c =
    let some : 1 ≤ c.loop-q.q = omega arith in
    let more = counted-more c.args.n c.loop-q.q some in
    let one = c.one_if-count.ensures.value ∙ ap {B = ℕ} (λ (b : Bool). if b then 1 else 0) c.has.ensures in
    omega (arith, more, one, c.loop-q.invariant)

pub returns-clause-few : goal.returns-clause-few
returns-clause-few c =
    let most = counted-most c.args.n c.loop-q.q in
    omega (arith, most, c.loop-q.invariant, c.loop-q-test.false, c.loop-q.auto.q-end)
