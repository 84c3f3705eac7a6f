-- The first rule that is broken, and the first place that breaks it.
use Rattle.std.specs.Prelude.{ℕ, Bool, true, false, not, ◌||◌, List, [], ◌∷◌, length, take, Option, Some, None, find}
use Rattle.std.specs.Prelude.{slice_index_or}
use Rattle.std.specs.List.{list_any, range_with_len}
use Rattle.std.specs.Str.{bytes_eq}

-- the fault, if the test of its rule fails
abbrev pub unless : {F : Type 0} → Bool → F → Option F
unless true fault = None
unless false fault = Some fault

-- the first fault of several
abbrev pub first_of : {F : Type 0} → List (Option F) → Option F
first_of [] = None
first_of (Some fault ∷ rest) = Some fault
first_of (None ∷ rest) = first_of rest

-- the least of the numbers below n that passes a test
abbrev pub first_below : ℕ → (ℕ → Bool) → Option ℕ
first_below n p = find p (range_with_len 0 n)

-- whether name k is malformed or equal to an earlier one
abbrev pub is_bad_name : (List ℕ → Bool) → List (List ℕ) → ℕ → Bool
is_bad_name is_name names k =
    let name = slice_index_or names k [] in not (is_name name) || list_any (bytes_eq name) (take k names)

abbrev pub first_bad_name : (List ℕ → Bool) → List (List ℕ) → Option ℕ
first_bad_name is_name names = first_below (length names) (is_bad_name is_name names)
