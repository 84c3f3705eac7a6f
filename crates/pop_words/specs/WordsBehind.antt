-- The words of a line, one after the other.
use Rattle.std.specs.Prelude.{◌≡◌, ℕ, ◌+◌, ◌&&◌, not, Bool, nat_lt, List, [], length, count_by, is_none, Option, Some}
use Rattle.std.specs.Prelude.{None, Result, Ok, Err, true, false}
use Rattle.std.specs.List.{list_any}
use Rattle.std.specs.Str.{bytes_eq}
use Rattle.pop_io.specs.Names.{variable_name}
use Rattle.pop_io.specs.declared.names.TheConstants.{VARIABLE_LIMIT}
use Rattle.base_lines.specs.Lines.{pieces}
use Rattle.pop_words.specs.Vars.{are_variables}
use Rattle.pop_io.specs.declared.failure.Failure.{Failure}
use Rattle.pop_io.specs.declared.failure.Failure.TheVariants.{Fault, NoMemory}
use Rattle.pop_words.specs.declared.vars.NoVars.{NoVars}

-- the words after a space, if there is one
abbrev pub words_behind : Option (List ℕ) → List (List ℕ)
words_behind None = []
words_behind (Some rest) = pieces 32 rest

-- how many bytes follow the last word that was read, including its space
abbrev pub bytes_left : Option (List ℕ) → ℕ
bytes_left None = 0
bytes_left (Some rest) = length rest + 1

-- how many variables have no count yet
abbrev pub without_count : List (Option ℕ) → ℕ
without_count found = count_by is_none found

-- a further name
abbrev pub can_join : List (List ℕ) → List ℕ → Bool
can_join names word =
    variable_name word && (nat_lt (length names) VARIABLE_LIMIT && not (list_any (bytes_eq word) names))

-- the words, if they are names of variables
abbrev pub NamedBehind : Result (List (List ℕ)) (Failure NoVars) → List (List ℕ) → Type 0
NamedBehind (Ok names) words = (names ≡ words) × (are_variables words ≡ true)
NamedBehind (Err (Fault _)) words = are_variables words ≡ false
NamedBehind (Err NoMemory) words = Unit {0}
