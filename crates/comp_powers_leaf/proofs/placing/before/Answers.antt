use Rattle.std.proofs.Common.{◌≡◌, ◌∙◌, get_or, ap, sym, arith, rules, w64, SFits}
use Rattle.std.specs.Prelude.{pos}
use Rattle.std.proofs.lemmas.Int.{to_z-of_z}
use Rattle.comp_powers_leaf.specs.PowersLeaf.{coefficient_of, block_size}
use Rattle.comp_powers_leaf.proofs.Building.{before-most, none_before, one_more_before}
use Rattle.comp_powers_leaf.proofs.placing.before.Goals as goal

pub overflow_add-sum : goal.overflow_add-sum
overflow_add-sum c =
    let most = before-most c.args.k c.args.coefs.now c.loop-i.i c.requires.range in
    omega (arith, most, c.loop-i.invariant, c.size-sum.ensures.small, c.loop-i-test.true, c.requires.variable, c.requires.few)

pub loop-i-preserved : goal.loop-i-preserved
loop-i-preserved c =
    let more = one_more_before c.args.k c.args.coefs.now c.loop-i.i (omega (arith, c.loop-i-test.true, c.requires.variable)) in
    let z = get_or c.args.coefs.now c.from.result (pos 0) in
    let fits : SFits w64 z = search rules in
    let at : c.from.result ≡ c.loop-i.i = c.from.ensures in
    let same = ap (block_size c.args.k) (to_z-of_z w64 z fits ∙ ap (coefficient_of c.args.coefs.now) at) in
    omega (arith, more, same, c.loop-i.invariant, c.size-sum.ensures.value)

pub returns-clause-small : goal.returns-clause-small
returns-clause-small c =
    let most = before-most c.args.k c.args.coefs.now c.loop-i.i c.requires.range in
    omega (arith, most, c.loop-i.invariant, c.loop-i-test.false, c.loop-i.auto.i-end, c.requires.variable, c.requires.few)

pub loop-i-init : goal.loop-i-init
loop-i-init c = sym (none_before c.args.k c.args.coefs.now)
