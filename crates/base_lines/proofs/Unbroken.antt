-- Bytes without a line feed, as lines.
use Rattle.std.proofs.Common.{◌≡◌, ℕ, ◌<◌, ◌^◌, ◌==◌, Bool, true, false, List, [], ◌∷◌, ◌++◌, decimal, refl, ap, subst, ◌∙◌, arith, append_assoc}
use Rattle.std.specs.Char.{is_ascii_digit}
use Rattle.std.specs.Str.{all_ascii_digits}
use Rattle.std.specs.List.{list_any, onto_first}
use Rattle.std.proofs.lemmas.Bool.{and_parts, or_parts, or_from, ne_eqb, false≢true}
use Rattle.std.proofs.lemmas.Fmt.{digits_decimal}
use Rattle.std.proofs.lemmas.List.Folds.{list_any-append}
use Rattle.std.proofs.lemmas.List.Splits.{slice_split-cons_no, length-slice_split}
use Rattle.base_lines.specs.Lines.{pieces, without_last_empty, lines_of, ended}
use Rattle.base_lines.proofs.Pieces.{goes_on}
use Rattle.base_lines.proofs.Printed.{own}

abbrev feed : ℕ → Bool
feed b = b == 10

-- these bytes contain no line feed
abbrev pub IsUnbroken : List ℕ → Type 0
IsUnbroken line = list_any feed line ≡ false

piece_ended : (line rest : List ℕ) → IsUnbroken line → pieces 10 (line ++ 10 ∷ rest) ≡ line ∷ pieces 10 rest
piece_ended [] rest none = refl
piece_ended (b ∷ line) rest none =
    let parts = or_parts (feed b) (list_any feed line) none in
    slice_split-cons_no feed b (line ++ 10 ∷ rest) parts.0 ∙ ap (onto_first b) (piece_ended line rest parts.1)

pub line_first : (line rest : List ℕ) → IsUnbroken line → lines_of (ended line ++ rest) ≡ line ∷ lines_of rest
unfolding lines_of
line_first line rest none =
    ap (λ (t : List ℕ). without_last_empty (pieces 10 t)) (append_assoc line (10 ∷ []) rest)
    ∙ ap without_last_empty (piece_ended line rest none)
    ∙ goes_on line (pieces 10 rest) (let l = length-slice_split feed rest in omega (arith, l))

pub both_unbroken : (xs ys : List ℕ) → IsUnbroken xs → IsUnbroken ys → IsUnbroken (xs ++ ys)
both_unbroken xs ys none more = list_any-append feed xs ys ∙ or_from (list_any feed xs) (list_any feed ys) none more

digits_unbroken : (text : List ℕ) → all_ascii_digits text ≡ true → IsUnbroken text
digits_unbroken [] digits = refl
digits_unbroken (c ∷ text) digits =
    let both = and_parts (is_ascii_digit c) (all_ascii_digits text) digits in
    or_from (feed c) (list_any feed text) (ne_eqb c 10 (λ same. false≢true (subst (λ (x : ℕ). is_ascii_digit x ≡ true) same both.0))) (digits_unbroken text both.1)

pub decimal_unbroken : (n : ℕ) → n < 2 ^ 64 → IsUnbroken (decimal n)
decimal_unbroken n small = digits_unbroken (decimal n) (digits_decimal own n small)
