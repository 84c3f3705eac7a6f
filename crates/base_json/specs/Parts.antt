-- What a JSON value is: a number, a text, a list of such items, an object with such a member.
use Rattle.std.specs.Prelude.{◌≡◌, ℕ, ℤ, pos, Bool, List, [], ◌∷◌, Some, option_and_then}
use Rattle.serde_json.specs.Data.{Data, Items}
use Rattle.serde_json.specs.Find.{get, as_number, as_i64, as_str, as_array, as_bool}
use Rattle.base_json.specs.Shapes.{listed}

abbrev pub IsNumber : ℕ → Data → Type 0
IsNumber n d = option_and_then as_i64 (as_number d) ≡ Some (pos n)

abbrev pub IsInteger : ℤ → Data → Type 0
IsInteger z d = option_and_then as_i64 (as_number d) ≡ Some z

abbrev pub IsText : List ℕ → Data → Type 0
IsText s d = as_str d ≡ Some s

abbrev pub IsTruth : Bool → Data → Type 0
IsTruth b d = as_bool d ≡ Some b

-- the value is an object, and its member of this name is such a value
abbrev pub HasMember : List ℕ → (Data → Type 0) → Data → Type 0
HasMember name Is d = (e : Data) × (get name d ≡ Some e) × Is e

-- each item stands for the element at its place
abbrev pub AreItems : {A : Type 0} → (A → Data → Type 0) → List A → List Data → Type 0
AreItems Is [] [] = Unit {0}
AreItems Is [] (d ∷ ds) = ⊥
AreItems Is (x ∷ xs) [] = ⊥
AreItems Is (x ∷ xs) (d ∷ ds) = Is x d × AreItems Is xs ds

-- the value is a list of such items
abbrev pub IsList : {A : Type 0} → (A → Data → Type 0) → List A → Data → Type 0
IsList Is xs d = (items : Items) × (as_array d ≡ Some items) × AreItems Is xs (listed items)

-- the value is a list, and its items are such
abbrev pub HasItems : (List Data → Type 0) → Data → Type 0
HasItems Are d = (items : Items) × (as_array d ≡ Some items) × Are (listed items)

-- exactly one value, which is such
abbrev pub IsOnly : (Data → Type 0) → List Data → Type 0
IsOnly Is [] = ⊥
IsOnly Is (d ∷ []) = Is d
IsOnly Is (d ∷ e ∷ ds) = ⊥

-- two values, each with its property
abbrev pub AreBoth : (Data → Type 0) → (Data → Type 0) → List Data → Type 0
AreBoth Is Are [] = ⊥
AreBoth Is Are (d ∷ []) = ⊥
AreBoth Is Are (d ∷ e ∷ []) = Is d × Are e
AreBoth Is Are (d ∷ e ∷ f ∷ ds) = ⊥

-- a word, and such values after it
abbrev pub BeginsWith : List ℕ → (List Data → Type 0) → List Data → Type 0
BeginsWith word Rest [] = ⊥
BeginsWith word Rest (d ∷ ds) = IsText word d × Rest ds
