-- The parts of a JSON value. A wrong kind comes before a length or a range, and a list's items are read one by one.
use Rattle.std.specs.Prelude.{ℕ, ◌+◌, ◌&&◌, nat_le, nat_lt, nat_abs, true, ℤ, pos, negsuc, Bool, List, [], ◌∷◌, ◌++◌}
use Rattle.std.specs.Prelude.{length, Option, Some, None, option_and_then, option_map, Result, Ok, if◌then◌else◌}
use Rattle.serde_json.specs.Data.{Data, Items, no_items, item}
use Rattle.serde_json.specs.Find.{get, as_number, as_i64, as_str, as_array, as_object, as_bool}
use Rattle.base_json.specs.declared.fault.Why.TheVariants.{Kind, Range}
use Rattle.base_json.specs.Faults.{Fault, ◌>>=◌, broken}
use Rattle.base_json.specs.Paths.{member_path, item_path}

abbrev pub listed : Items → List Data
listed no_items = []
listed (item d ds) = d ∷ listed ds

-- a value of the wanted kind
abbrev pub of_kind : {A : Type 0} → List ℕ → Option A → Result A Fault
of_kind path None = broken path Kind
of_kind path (Some x) = Ok x

-- that the value is an object
unfoldable pub object_at : List ℕ → Data → Result (Unit {0}) Fault
object_at path d = of_kind path (option_map (λ ms. tt) (as_object d))

abbrev pub member_at : List ℕ → List ℕ → Data → Result Data Fault
member_at path name d = of_kind (member_path path name) (get name d)

-- a member, read by this reader at its path
abbrev pub member_by : {A : Type 0} → List ℕ → List ℕ → (List ℕ → Data → Result A Fault) → Data → Result A Fault
member_by path name read d = member_at path name d >>= λ e. read (member_path path name) e

abbrev pub within : {A : Type 0} → List ℕ → ℕ → ℕ → List A → Result (List A) Fault
within path least most xs = if nat_le least (length xs) && nat_le (length xs) most then Ok xs else broken path Range

-- a list with least to most items
unfoldable pub list_at : List ℕ → ℕ → ℕ → Data → Result (List Data) Fault
list_at path least most d = do
  ds ← of_kind path (as_array d)
  within path least most (listed ds)

abbrev pub in_range : List ℕ → ℕ → ℕ → ℤ → Result ℕ Fault
in_range path least most (pos n) = if nat_le least n && nat_le n most then Ok n else broken path Range
in_range path least most (negsuc n) = broken path Range

-- a whole number from least to most; a number that is not whole is of another kind
unfoldable pub number_at : List ℕ → ℕ → ℕ → Data → Result ℕ Fault
number_at path least most d = do
  z ← of_kind path (option_and_then as_i64 (as_number d))
  in_range path least most z

abbrev pub of_size : List ℕ → ℕ → ℤ → Result ℤ Fault
of_size path most z = if nat_le (nat_abs z) most then Ok z else broken path Range

-- a whole number of at most this size, whatever its sign
unfoldable pub integer_at : List ℕ → ℕ → Data → Result ℤ Fault
integer_at path most d = do
  z ← of_kind path (option_and_then as_i64 (as_number d))
  of_size path most z

abbrev pub last_of : List ℕ → Option ℕ
last_of [] = None
last_of (x ∷ []) = Some x
last_of (x ∷ y ∷ xs) = last_of (y ∷ xs)

-- whether a number is greater than the one before it, if there is one
abbrev pub comes_after : Option ℕ → ℕ → Bool
comes_after None n = true
comes_after (Some k) n = nat_lt k n

-- a whole number up to most that is greater than the one before it
unfoldable pub ascending_at : List ℕ → ℕ → Option ℕ → Data → Result ℕ Fault
ascending_at path most before d = do
  n ← number_at path 0 most d
  if comes_after before n then Ok n else broken path Range

unfoldable pub text_at : List ℕ → Data → Result (List ℕ) Fault
text_at path d = of_kind path (as_str d)

unfoldable pub truth_at : List ℕ → Data → Result Bool Fault
truth_at path d = of_kind path (as_bool d)

-- each item, given those before it
abbrev pub each : {A : Type 0} → (List A → ℕ → Data → Result A Fault) → List A → ℕ → List Data → Result (List A) Fault
each at found i [] = Ok found
each at found i (d ∷ ds) = at found i d >>= λ x. each at (found ++ x ∷ []) (i + 1) ds

-- an item at its place, read by this reader at its path
abbrev pub item_by : {A : Type 0} → (List ℕ → List A → Data → Result A Fault)
    → List ℕ → List A → ℕ → Data → Result A Fault
item_by read path found i d = read (item_path path i) found d

-- a list of least to most items, each read by this reader
unfoldable pub each_at : {A : Type 0} → (List ℕ → List A → Data → Result A Fault)
    → List ℕ → ℕ → ℕ → Data → Result (List A) Fault
each_at read path least most d = do
  ds ← list_at path least most d
  each (item_by read path) [] 0 ds

-- a list of any length
unfoldable pub items_at : List ℕ → Data → Result (List Data) Fault
items_at path d = do
  ds ← of_kind path (as_array d)
  Ok (listed ds)

abbrev pub the_two : List ℕ → List Data → Result (Data × Data) Fault
the_two path (d ∷ e ∷ []) = Ok (d, e)
the_two path _ = broken path Kind

-- a list of two items; with another length it is of another kind
unfoldable pub pair_at : List ℕ → Data → Result (Data × Data) Fault
pair_at path d = do
  ds ← items_at path d
  the_two path ds

-- the word that a list begins with; an empty list is of another kind
unfoldable pub word_at : List ℕ → List Data → Result (List ℕ) Fault
word_at path [] = broken path Kind
word_at path (d ∷ ds) = text_at (item_path path 0) d

-- the item after the word, if it is the only one
unfoldable pub one_after : List ℕ → List Data → Result Data Fault
one_after path (w ∷ d ∷ []) = Ok d
one_after path _ = broken path Kind

-- the two items after the word, if there are no others
unfoldable pub two_after : List ℕ → List Data → Result (Data × Data) Fault
two_after path (w ∷ d ∷ e ∷ []) = Ok (d, e)
two_after path _ = broken path Kind
