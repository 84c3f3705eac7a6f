-- Sums of rows, with one coefficient for each variable.
use Rattle.std.specs.Prelude.{◌≡◌, ℕ, ◌<◌, ◌≤◌, length, All, Contains, slice_index_or, true, false}
use Rattle.std.specs.Prelude.{List, ℤ, pos, ◌+ℤ◌, nat_abs, int_le, Bool, Option, Some, None}
use Rattle.cert_base.specs.declared.fact.Term.{Term}
use Rattle.cert_base.specs.declared.fact.Row.{Row}
use Rattle.cert_base.specs.declared.fact.Fact.{Fact}
use Rattle.cert_base.specs.ClosingTests.{coefficient_in, may_add, may_add_modulo, all_named, sum_of}
use Rattle.cert_linear.specs.declared.sum.Entry.{Entry}
use Rattle.cert_linear.specs.declared.sum.Sum.{Sum}
use Rattle.cert_linear.specs.declared.sum.TheConstants.{SUM_LIMIT, REST_LIMIT}

-- the entry of a variable; one that the list doesn't reach is blank
abbrev pub blank : Entry
blank = record { sum = pos 0; touched = false }

abbrev pub entry_at : List Entry → ℕ → Entry
entry_at entries variable = slice_index_or entries variable blank

-- what did not fit into the entry of a variable
abbrev pub rest_at : List ℤ → ℕ → ℤ
rest_at rests variable = slice_index_or rests variable (pos 0)

-- the coefficient of a variable
abbrev pub coefficient_of : Sum → ℕ → ℤ
coefficient_of sum variable = (entry_at sum.entries.items variable).sum +ℤ rest_at sum.rests.items variable

-- the list of what was touched has all entries that aren't 0
pub record AreTidy (entries : List Entry) (touched : List ℕ) : Type 0 where
  pub within : All (λ variable. variable < length entries) touched
  pub zero : (variable : ℕ) → (entry_at entries variable).touched ≡ false → (entry_at entries variable).sum ≡ pos 0
  pub listed : (variable : ℕ) → (entry_at entries variable).touched ≡ true → Contains touched variable

-- only touched variables have a rest that isn't 0, and none is too great to be added to
pub record AreRests (entries : List Entry) (rests : List ℤ) : Type 0 where
  pub zero : (variable : ℕ) → (entry_at entries variable).touched ≡ false → rest_at rests variable ≡ pos 0
  pub small : (variable : ℕ) → nat_abs (rest_at rests variable) ≤ REST_LIMIT

abbrev pub IsTidy : Sum → Type 0
IsTidy sum = AreTidy sum.entries.items sum.touched.items × AreRests sum.entries.items sum.rests.items

-- the sum has the coefficients and the constant of the row
pub record IsSum (row : Row) (sum : Sum) : Type 0 where
  pub terms : (variable : ℕ) → coefficient_of sum variable ≡ coefficient_in row.terms variable
  pub constant : sum.constant ≡ row.constant

-- both sums together have the coefficients and the constant of the row
pub record AreSum (row : Row) (sum other : Sum) : Type 0 where
  pub terms : (variable : ℕ)
      → (coefficient_of sum variable +ℤ coefficient_of other variable) ≡ coefficient_in row.terms variable
  pub constant : (sum.constant +ℤ other.constant) ≡ row.constant

-- the second sum is the first plus the row
pub record IsPlus (row : Row) (sum more : Sum) : Type 0 where
  pub terms : (variable : ℕ)
      → coefficient_of more variable ≡ (coefficient_of sum variable +ℤ coefficient_in row.terms variable)
  pub constant : more.constant ≡ (sum.constant +ℤ row.constant)

-- both sums have the same coefficients and the same constant
pub record IsSame (sum other : Sum) : Type 0 where
  pub terms : (variable : ℕ) → coefficient_of other variable ≡ coefficient_of sum variable
  pub constant : other.constant ≡ sum.constant

-- no coefficient is above this number in size, nor is the constant
pub record IsSumWithin (size : ℕ) (sum : Sum) : Type 0 where
  pub terms : (variable : ℕ) → nat_abs (coefficient_of sum variable) ≤ size
  pub constant : nat_abs sum.constant ≤ size

-- a variable whose coefficient is above 0 is in the list
abbrev pub IsListedIfPositive : Sum → List ℕ → ℕ → Type 0
IsListedIfPositive sum variables variable =
    int_le (coefficient_of sum variable) (pos 0) ≡ false → Contains variables variable

-- all variables whose coefficient is above 0 are in the list
abbrev pub HasAllPositive : Sum → List ℕ → Type 0
HasAllPositive sum variables = (variable : ℕ) → IsListedIfPositive sum variables variable

-- whether a fact may have a multiplier: in a sum of facts, or in one modulo m
abbrev pub may_by : Option ℕ → ℤ → Fact → Bool
may_by None = may_add
may_by (Some m) = may_add_modulo m

-- whether each named fact may have its multiplier, and if so, the sum is theirs
abbrev pub SumsUp : Option ℕ → List Fact → List Term → Sum → Bool → Type 0
SumsUp modulus facts terms sum false = all_named (may_by modulus) facts terms ≡ false
SumsUp modulus facts terms sum true =
    (all_named (may_by modulus) facts terms ≡ true) × IsSum (sum_of facts terms) sum × IsSumWithin SUM_LIMIT sum
