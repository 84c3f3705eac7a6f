use Rattle.std.proofs.Common.{◌≡◌, ◌<◌, ◌∷◌, ◌∙◌, rules, refl, sym, arith}
use Rattle.std.proofs.lemmas.List.{take_rest}
use Rattle.pop_journal.proofs.Leading.{lead_number, lead_first, lead_on, lead_zero, below_top, below_all}
use Rattle.pop_journal.proofs.short.leading_number.Goals as goal

pub returns-then-value-eq0 : goal.returns-then-value-eq0
returns-then-value-eq0 c =
    let is : c.in_ok-first.first.now ∷ c.in_ok-first.behind.now ≡ c.args.text.now = search rules in
    lead_zero c.args.text.now c.in_ok-first.behind.now c.in_ok-first.first.now (sym is) c.if-not-is_ascii_digit.ensures.cases (omega (arith, c.from-value.ensures, c.if-value-eq0.true))

pub returns-then-not-is_ascii_digit-2 : goal.returns-then-not-is_ascii_digit-2
returns-then-not-is_ascii_digit-2 c =
    let h = c.loop-i.invariant in
    rw (take_rest c.args.text.now) (lead_number c.args.text.now c.loop-i.i c.loop-i.value h.lead h.some (omega (arith, c.loop-i-test.true, c.min-end.ensures)) (below_all c.args.text.now c.loop-i.i c.loop-i.value h.lead))

pub returns : goal.returns
returns c =
    let h = c.loop-i.invariant in
    let some = h.some in
    let end : c.loop-i.i ≡ c.min-end.result = omega (arith, c.loop-i-test.false, c.loop-i.auto.i-end, c.loop-i.auto.i, c.min-end.ensures, c.in_ok-first.ensures.cases.1) in
    rw (sym end) (rw (take_rest c.args.text.now) (lead_number c.args.text.now c.loop-i.i c.loop-i.value h.lead some (omega (arith, end, c.min-end.ensures)) (below_all c.args.text.now c.loop-i.i c.loop-i.value h.lead)))

pub overflow_mul-value : goal.overflow_mul-value
overflow_mul-value c =
    let h = c.loop-i.invariant in
    let top = below_top c.loop-i.value 0 c.loop-i.i h.lead.below (omega arith) (omega (arith, c.loop-i-test.true, c.min-end.ensures)) in
    record { fits = omega (arith, top) }

pub overflow_add-value : goal.overflow_add-value
overflow_add-value c =
    let h = c.loop-i.invariant in
    let digit = c.if-not-is_ascii_digit-2.ensures.cases in
    let small : c.from.result < 10 = omega (arith, digit.0, digit.1, c.from.ensures) in
    let top = below_top c.loop-i.value c.from.result c.loop-i.i h.lead.below small (omega (arith, c.loop-i-test.true, c.min-end.ensures)) in
    record { fits = omega (arith, top) }

pub loop-i-init : goal.loop-i-init
loop-i-init c =
    rw c.from-value.ensures
    (lead_first c.args.text.now c.in_ok-first.first.now (search rules) (search rules) c.if-not-is_ascii_digit.ensures.cases (λ e. c.if-value-eq0.false (c.from-value.ensures ∙ e)))

pub loop-i-preserved : goal.loop-i-preserved
loop-i-preserved c =
    rw c.from.ensures
    (lead_on c.args.text.now c.loop-i.i c.loop-i.value _ c.loop-i.invariant (omega (arith, c.loop-i-test.true, c.min-end.ensures)) refl c.if-not-is_ascii_digit-2.ensures.cases (omega (arith, c.loop-i-test.true, c.min-end.ensures)))
