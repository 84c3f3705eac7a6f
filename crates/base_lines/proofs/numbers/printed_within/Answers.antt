use Rattle.std.proofs.Common.{◌≡◌, ◌∙◌, sym, refl, arith, ℕ, ◌^◌, ◌<◌, Option, Some, None, IfSome, decimal, List, true}
use Rattle.base_lines.specs.Numbers.{number_of, number_of_within, has_no_leading_zero}
use Rattle.base_lines.proofs.Printed.{printed-number_of, number_within-Some}
use Rattle.base_lines.proofs.numbers.printed_within.Goals as goal

printed : (least most : ℕ) (text : List ℕ) (found : Option ℕ) → most < 2 ^ 64 → has_no_leading_zero text ≡ true → number_of_within least most text ≡ found → IfSome found (λ n. text ≡ decimal n)
printed least most text None small form is = tt
printed least most text (Some n) small form is =
    let value = number_within-Some least most text (number_of text) n refl is in
    printed-number_of text n form value.0 (omega (arith, value.1))

pub returns-then-is_printed-clause-printed : goal.returns-then-is_printed-clause-printed
returns-then-is_printed-clause-printed c =
    printed c.args.least c.args.most c.args.text.now c.number_within.result c.ranges.most.fits (sym c.is_printed.ensures ∙ c.if-is_printed.true) (sym c.number_within.ensures)
