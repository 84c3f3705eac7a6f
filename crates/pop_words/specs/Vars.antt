-- Vars lines: `vars`, and the names of the variables after single spaces.
use Rattle.std.specs.Prelude.{◌≡◌, ◌≤◌, ℕ, Bool, true, ◌&&◌, not, nat_le, List, [], ◌∷◌, length, codes, Option, Some}
use Rattle.std.specs.Prelude.{None, Result, Ok, Err, if◌then◌else◌}
use Rattle.std.specs.List.{list_all, list_any}
use Rattle.std.specs.Str.{bytes_eq}
use Rattle.pop_io.specs.Names.{variable_name, AreNames}
use Rattle.pop_io.specs.declared.names.TheConstants.{VARIABLE_LIMIT}
use Rattle.base_lines.specs.Lines.{pieces}
use Rattle.pop_io.specs.declared.failure.Failure.{Failure}
use Rattle.pop_io.specs.declared.failure.Failure.TheVariants.{Fault, NoMemory}
use Rattle.pop_words.specs.declared.vars.NoVars.{NoVars}

-- no name is equal to a later one
abbrev pub are_distinct : List (List ℕ) → Bool
are_distinct [] = true
are_distinct (name ∷ names) = not (list_any (bytes_eq name) names) && are_distinct names

-- 1 to VARIABLE_LIMIT distinct names of variables
abbrev pub are_variables : List (List ℕ) → Bool
are_variables names =
    (nat_le 1 (length names) && nat_le (length names) VARIABLE_LIMIT)
    && (list_all variable_name names && are_distinct names)

-- the words after the first, which is `vars`
abbrev pub behind_vars : List (List ℕ) → Option (List (List ℕ))
behind_vars [] = None
behind_vars (first ∷ names) = if bytes_eq first (codes "vars") && are_variables names then Some names else None

-- the names of a vars line, one space before each; the line has no other form
unfoldable pub vars_of : List ℕ → Option (List (List ℕ))
vars_of line = behind_vars (pieces 32 line)

-- what a function returned is what the line says, unless out of memory
abbrev pub Named : Result (List (List ℕ)) (Failure NoVars) → Option (List (List ℕ)) → Type 0
Named (Ok names) read = read ≡ Some names
Named (Err (Fault _)) read = read ≡ None
Named (Err NoMemory) read = Unit {0}

-- the names of a net's or a predicate's variables
pub record AreVariables (names : List (List ℕ)) : Type 0 where
  pub some : 1 ≤ length names
  pub few : length names ≤ VARIABLE_LIMIT
  pub formed : AreNames variable_name names
