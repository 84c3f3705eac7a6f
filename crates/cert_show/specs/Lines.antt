-- Words and lines.
use Rattle.std.specs.Prelude.{ℕ, Bool, false, not, ◌&&◌, ◌||◌, ◌==◌, if◌then◌else◌, List, [], ◌∷◌, ◌++◌, codes, map}
use Rattle.std.specs.Prelude.{slice_index_or}
use Rattle.std.specs.List.{concat, list_all, range_with_len}
use Rattle.pop_io.specs.Names.{is_name_byte}
use Rattle.base_lines.specs.Lines.{ended}
use Rattle.pop_leaf.specs.declared.leaf.Move.{Move}

-- the text of these lines
abbrev pub text_of : List (List ℕ) → List ℕ
text_of lines = concat (map ended lines)

-- the numbers below n
abbrev pub below : ℕ → List ℕ
below n = range_with_len 0 n

-- the texts for the numbers below n, one behind the other
abbrev pub each : ℕ → (ℕ → List ℕ) → List ℕ
each n text = concat (map text (below n))

-- a word behind a blank
abbrev pub spaced : List ℕ → List ℕ
spaced word = codes " " ++ word

-- a letter, a digit, or one of _ ' . ^ ~ @ $ % -
abbrev pub is_plain_byte : ℕ → Bool
is_plain_byte b =
    is_name_byte b || b == 39 || b == 46 || b == 94 || b == 126 || b == 64 || b == 36 || b == 37 || b == 45

-- such bytes alone, at least one, and no - first
abbrev pub is_plain : List ℕ → Bool
is_plain [] = false
is_plain (b ∷ bytes) = not (b == 45) && list_all is_plain_byte (b ∷ bytes)

-- a byte between double quotes: a backslash stands before each " and each backslash
abbrev pub escape : ℕ → List ℕ
escape b = if b == 34 || b == 92 then 92 ∷ b ∷ [] else b ∷ []

-- a name as a `.pop` file has it: in double quotes, unless it is plain
abbrev pub quoted : List ℕ → List ℕ
quoted name = if is_plain name then name else codes "\"" ++ (concat (map escape name) ++ codes "\"")

-- the name with this number
abbrev pub name_at : List (List ℕ) → ℕ → List ℕ
name_at names i = quoted (slice_index_or names i [])

-- a name, and what belongs to it
abbrev pub named : List ℕ → List ℕ → List ℕ
named name value = name ++ codes ": " ++ value

abbrev pub pair_text : List (List ℕ) → ℕ → ℕ → List ℕ
pair_text states p q = name_at states p ++ codes " + " ++ name_at states q

-- A + B -> a + b
abbrev pub move_text : List (List ℕ) → Move → List ℕ
move_text states t = pair_text states t.p t.q ++ codes " -> " ++ pair_text states t.r t.s
