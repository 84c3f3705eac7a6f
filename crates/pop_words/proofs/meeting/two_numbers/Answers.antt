use Rattle.std.proofs.Common.{◌≡◌, ◌<◌, ◌∷◌, ◌∙◌, [], ℕ, List, length, Option, Some, None, true, refl, ap, sym, arith, Bor, ◌==◌}
use Rattle.std.specs.Prelude.{is_some}
use Rattle.std.specs.Option.{option_copied}
use Rattle.std.proofs.lemmas.List.Splits.{length-slice_split}
use Rattle.base_lines.specs.Lines.{pieces, IsCut}
use Rattle.pop_words.specs.Meetings.{pair_of}
use Rattle.pop_words.proofs.meeting.two_numbers.Goals as goal

three_words : (first second : List ℕ) (rest : List (List ℕ)) → 0 < length rest → None ≡ pair_of (first ∷ second ∷ rest)
three_words first second [] some = absurd (omega arith)
three_words first second (word ∷ rest) some = refl

too_many : (line first rest second : List ℕ) (more : Option (Bor (List ℕ))) → IsCut 32 line first (Some rest) → IsCut 32 rest second (option_copied more) → is_some more ≡ true → None ≡ pair_of (pieces 32 line)
too_many line first rest second None begun cut some = cc
too_many line first rest second (Some more) begun cut some =
    let words : pieces 32 line ≡ first ∷ second ∷ pieces 32 more.now = begun.0 ∙ ap (λ (ps : List (List ℕ)). first ∷ ps) cut.0 in
    three_words first second (pieces 32 more.now) (omega (arith, length-slice_split (λ b. b == 32) more.now)) ∙ ap pair_of (sym words)

pub returns-then-is_some : goal.returns-then-is_some
returns-then-is_some c =
    too_many c.args.line.now c.cut.result.0.now c.in-Some.rest.now c.cut-2.result.0.now c.cut-2.result.1 (rw c.in-Some.is at c.cut.ensures) c.cut-2.ensures (sym c.is_some.ensures ∙ c.if-is_some.true)
