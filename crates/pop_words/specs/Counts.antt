-- Crowd lines: `crowd`, and words `name=count` after single spaces.
use Rattle.std.specs.Prelude.{ℕ, ◌+◌, ◌==◌, List, [], ◌∷◌, codes, map, Option, Some, None, if◌then◌else◌}
use Rattle.std.specs.Prelude.{option_and_then, option_map, unwrap_or, is_some, position, Result, Ok, Err}
use Rattle.std.specs.List.{slice_index_or, slice_set}
use Rattle.std.specs.Str.{bytes_eq}
use Rattle.pop_io.specs.Gives.{Gives}
use Rattle.base_lines.specs.Lines.{pieces}
use Rattle.base_lines.specs.Numbers.{small_number_of}
use Rattle.pop_io.specs.declared.failure.Failure.{Failure}
use Rattle.pop_io.specs.Failures.{fault_of}
use Rattle.pop_words.specs.declared.counts.BadWord.{BadWord}

-- what precedes the first byte c, and what follows it
abbrev pub split_once : ℕ → List ℕ → Option (List ℕ × List ℕ)
split_once c [] = None
split_once c (x ∷ xs) = if x == c then Some ([], xs) else option_map (λ p. (x ∷ p.0, p.1)) (split_once c xs)

-- a word `name=count`: the number of the variable, and a count below 2 ^ 64
abbrev pub entry_of : List (List ℕ) → List ℕ → Option (ℕ × ℕ)
entry_of names word =
    option_and_then
    (λ parts. option_and_then
    (λ variable. option_map (λ count. (variable, count)) (small_number_of parts.1)) (position (bytes_eq parts.0) names))
    (split_once 61 word)

-- the counts with one more, if its variable has none yet
abbrev pub with_entry : List (Option ℕ) → ℕ × ℕ → Option (List (Option ℕ))
with_entry found entry =
    if is_some (slice_index_or found entry.0 None) then None else Some (slice_set found entry.0 (Some entry.1))

-- the counts with that of a word, if it is well-formed and names a variable for the first time
unfoldable pub with_word : List (List ℕ) → List (Option ℕ) → List ℕ → Option (List (Option ℕ))
with_word names found word = option_and_then (with_entry found) (entry_of names word)

-- the counts that the words from number i on give, or the number of the first bad word
abbrev pub with_words : List (List ℕ) → List (Option ℕ) → ℕ → List (List ℕ) → Result (List (Option ℕ)) ℕ
with_words names found i [] = Ok found
with_words names found i (w ∷ ws) =
    unwrap_or (option_map (λ more. with_words names more (i + 1) ws) (with_word names found w)) (Err i)

-- every word after the first, which is `crowd`
abbrev pub counts_behind : List (List ℕ) → List (List ℕ) → Result (List (Option ℕ)) ℕ
counts_behind names [] = Err 0
counts_behind names (first ∷ words) =
    if bytes_eq first (codes "crowd") then with_words names (map (λ _. None) names) 1 words else Err 0

-- a variable that isn't named counts 0
abbrev pub with_zeros : Result (List (Option ℕ)) ℕ → Result (List ℕ) ℕ
with_zeros (Ok found) = Ok (map (λ o. unwrap_or o 0) found)
with_zeros (Err word) = Err word

-- the counts of a crowd line, one per variable, or the number of its first bad word
unfoldable pub counts_of : List (List ℕ) → List ℕ → Result (List ℕ) ℕ
counts_of names line = with_zeros (counts_behind names (pieces 32 line))

-- the number of the bad word, unless out of memory
abbrev pub bad_word_of : Failure BadWord → Option ℕ
bad_word_of failure = option_map (λ bad. bad.0) (fault_of failure)

-- what a function returned is what was read, unless out of memory
abbrev pub Counted : {A : Type 0} → Result A (Failure BadWord) → Result A ℕ → Type 0
Counted result read = Gives bad_word_of (λ counts. counts) result read
