use Rattle.std.proofs.Common.{◌≡◌, ℕ, ◌/◌, ◌%◌, ◌++◌, List, arith, rules, sym, subst, ◌∙◌}
use Rattle.std.specs.Prelude.{decimal}
use Rattle.base_lines.specs.Places.{IsPlaced, three_digits}
use Rattle.base_lines.proofs.Parts.{decimal_parts}
use Rattle.base_lines.proofs.Places.{placed_then}
use Rattle.base_lines.proofs.numerals.Numerals.put_parts.Goals as goal

pub returns-in-Some-Some-clause-placed : goal.returns-in-Some-Some-clause-placed
returns-in-Some-Some-clause-placed c =
    let thousands : c.in-Some-Some.thousands.now ≡ decimal (c.args.n / 1000) = search rules in
    let last : c.in-Some-Some.last.now ≡ three_digits (c.args.n % 1000) = search rules in
    let both : c.in-Some-Some.thousands.now ++ c.in-Some-Some.last.now ≡ decimal c.args.n =
    (λ i. thousands i ++ last i) ∙ sym (decimal_parts c.args.n c.requires.long (omega arith)) in
    subst (λ (l : List ℕ). IsPlaced c.args.buffer.now c.put.new.buffer c.args.at l c.put.result) both
    (placed_then c.put-end.ensures.placed c.put.ensures.placed)
