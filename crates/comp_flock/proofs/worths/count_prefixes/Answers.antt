use Rattle.std.proofs.Common.{◌∙◌, ℕ, Bool, ap, arith}
use Rattle.std.specs.Prelude.{if◌then◌else◌}
use Rattle.comp_flock.proofs.Building.{prefixes-few, prefixes-counted}
use Rattle.comp_flock.proofs.worths.count_prefixes.Goals as goal

pub overflow_add-ones : goal.overflow_add-ones
overflow_add-ones c =
    let most = prefixes-few c.args.enough c.loop-i.i in
    omega (arith, most, c.loop-i.invariant, c.one_if-ones.ensures.small, c.loop-i-test.true, c.loop-i.auto.i-end, c.requires)

pub loop-i-preserved : goal.loop-i-preserved
loop-i-preserved c =
    let more = prefixes-counted c.args.enough c.loop-i.i in
    let one = c.one_if-ones.ensures.value ∙ ap {B = ℕ} (λ (b : Bool). if b then 1 else 0) c.is_set.ensures in
    omega (arith, more, one, c.loop-i.invariant)

pub returns-clause-few : goal.returns-clause-few
returns-clause-few c =
    let most = prefixes-few c.args.enough c.loop-i.i in
    omega (arith, most, c.loop-i.invariant, c.loop-i-test.false, c.loop-i.auto.i-end)
