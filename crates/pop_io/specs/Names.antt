-- Names: the forms of the names of variables and of states, as bytes.
use Rattle.std.specs.Prelude.{◌≢◌, ℕ, Bool, false, not, ◌&&◌, ◌||◌, ◌==◌, nat_le}
use Rattle.std.specs.Prelude.{IsTrue, List, [], ◌∷◌, length, All, AllPairs, codes}
use Rattle.std.specs.List.{list_all}
use Rattle.std.specs.Str.{bytes_eq}
use Rattle.pop_io.specs.declared.names.TheConstants.{NAME_LIMIT}

-- a letter or `_`
abbrev pub is_name_start : ℕ → Bool
is_name_start b = nat_le 65 b && nat_le b 90 || nat_le 97 b && nat_le b 122 || b == 95

-- a letter, `_` or a digit
abbrev pub is_name_byte : ℕ → Bool
is_name_byte b = is_name_start b || nat_le 48 b && nat_le b 57

abbrev pub starts_name : List ℕ → Bool
starts_name [] = false
starts_name (b ∷ bytes) = is_name_start b

-- a variable's name: 1 to NAME_LIMIT letters, digits and `_`, no digit first, and not `mod`
abbrev pub variable_name : List ℕ → Bool
variable_name name =
    starts_name name && list_all is_name_byte name && nat_le (length name) NAME_LIMIT
    && not (bytes_eq name (codes "mod"))

-- a printed character other than a blank or `/`
abbrev pub is_printed : ℕ → Bool
is_printed b = nat_le 33 b && nat_le b 126 && not (b == 47)

-- a state's name: 1 to NAME_LIMIT printed bytes, no blank and no `/` among them
abbrev pub state_name : List ℕ → Bool
state_name name = nat_le 1 (length name) && list_all is_printed name && nat_le (length name) NAME_LIMIT

-- names of one form, no two of which are equal
abbrev pub AreNames : (List ℕ → Bool) → List (List ℕ) → Type 0
AreNames is_name names = All (λ name. IsTrue (is_name name)) names × AllPairs ◌≢◌ names
