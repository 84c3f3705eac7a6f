use Rattle.std.proofs.Common.{◌≡◌, ◌∙◌, sym, ℕ, ◌^◌, ◌<◌, Option, Some, None, IfSome, decimal, List, true}
use Rattle.base_lines.specs.Numbers.{number_of, has_no_leading_zero}
use Rattle.base_lines.proofs.Printed.{printed-number_of}
use Rattle.base_lines.proofs.numbers.printed_number.Goals as goal

printed : (text : List ℕ) (found : Option ℕ) → has_no_leading_zero text ≡ true → number_of text ≡ found → IfSome found (λ n. n < 2 ^ 64 → text ≡ decimal n)
printed text None form is = tt
printed text (Some n) form is = λ small. printed-number_of text n form is small

pub returns-then-is_printed-clause-printed : goal.returns-then-is_printed-clause-printed
returns-then-is_printed-clause-printed c = printed c.args.text.now c.number.result (sym c.is_printed.ensures ∙ c.if-is_printed.true) (sym c.number.ensures)
