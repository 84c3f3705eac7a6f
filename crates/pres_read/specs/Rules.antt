-- The rules on names, numbers and depth, over trees of productions and their symbols.
use Rattle.std.specs.Prelude.{◌≡◌, ◌≤◌, ℕ, Bool, true, false, ◌++◌, List, [], ◌∷◌, Option, Some, None, position}
use Rattle.std.specs.Prelude.{slice_index_or, IsSome, ℤ, pos, ◌+ℤ◌, nat_abs}
use Rattle.std.specs.Str.{bytes_eq}
use Rattle.pres_ast.specs.declared.limits.TheConstants.{COEFFICIENT_LIMIT, MODULUS_LIMIT, WEIGHT_LIMIT}
use Rattle.pres_read.specs.declared.depth.TheConstants.{PARENTHESIS_LIMIT}
use Rattle.pres_tokens.specs.declared.token.Relation.{Relation}
use Rattle.pres_tokens.specs.Symbols.{Symbol, Name, Number, Plus, Minus, Star}
use Rattle.pres_tokens.specs.Symbols.{Compare, And, Or, Not, Open, Close, Mod, Stray}
use Rattle.pres_read.specs.Numbers.{value_of_digits}
use Rattle.pres_read.specs.Atoms.{signed_number, limit_of}
use Rattle.pres_read.specs.Depth.{Depth, surface, deeper}
use Rattle.pres_read.specs.Atoms.{zero_coefs}
use Rattle.pres_read.specs.Grammar.{Term, Sum, first, further, Atom, relational, modular, Part, Phrase}
use Rattle.pres_read.specs.Grammar.{conj, either, unit, both, negate, group, atom, sum_symbols}
use Rattle.pres_read.specs.Grammar.{equal_or_not, constant_symbols, term_name, term_number, coefs_of}

-- the name is a variable's, and its coefficient plus z is within the limit
abbrev pub CoefFits : List ℤ → Option ℕ → ℤ → Type 0
CoefFits coefs None z = ⊥
CoefFits coefs (Some i) z = nat_abs (slice_index_or coefs i (pos 0) +ℤ z) ≤ COEFFICIENT_LIMIT

abbrev pub TermFits : List (List ℕ) → List ℤ → Bool → Term → Type 0
TermFits names coefs negative term =
    (term_number term ≤ COEFFICIENT_LIMIT)
    × CoefFits coefs (position (bytes_eq (term_name term)) names) (signed_number negative (term_number term))

abbrev pub SumFits : List (List ℕ) → Sum → Type 0
SumFits names (first negative term) = TermFits names (zero_coefs names) negative term
SumFits names (further sum negative term) = SumFits names sum × TermFits names (coefs_of names sum) negative term

abbrev pub AtomFits : List (List ℕ) → Atom → Type 0
AtomFits names (relational sum relation negative digits) =
    SumFits names sum × (value_of_digits digits ≤ limit_of relation)
AtomFits names (modular sum unequal negative digits modulus) =
    SumFits names sum × (value_of_digits digits ≤ limit_of (equal_or_not unequal))
    × (2 ≤ value_of_digits modulus) × (value_of_digits modulus ≤ MODULUS_LIMIT)

-- names are known, and numbers within their limits
abbrev pub Fits : {part : Part} → List (List ℕ) → Phrase part → Type 0
Fits names (conj p) = Fits names p
Fits names (either p q) = Fits names p × Fits names q
Fits names (unit p) = Fits names p
Fits names (both p q) = Fits names p × Fits names q
Fits names (negate p) = Fits names p
Fits names (group p) = Fits names p
Fits names (atom a) = AtomFits names a

-- the charge and the number of open parentheses never exceed their limits
abbrev pub IsShallow : Depth → List Symbol → Type 0
IsShallow d [] = Unit {0}
IsShallow d (s ∷ ss) =
    ((deeper d s).charge ≤ WEIGHT_LIMIT)
    × ((deeper d s).parentheses ≤ PARENTHESIS_LIMIT)
    × IsShallow (deeper d s) ss

-- a name is a variable's
abbrev pub IsKnown : List (List ℕ) → Symbol → Type 0
IsKnown names (Name word) = IsSome (position (bytes_eq word) names)
IsKnown names (Number digits) = Unit {0}
IsKnown names Plus = Unit {0}
IsKnown names Minus = Unit {0}
IsKnown names Star = Unit {0}
IsKnown names (Compare r) = Unit {0}
IsKnown names And = Unit {0}
IsKnown names Or = Unit {0}
IsKnown names Not = Unit {0}
IsKnown names Open = Unit {0}
IsKnown names Close = Unit {0}
IsKnown names Mod = Unit {0}
IsKnown names Stray = Unit {0}

abbrev pub AreKnown : List (List ℕ) → List Symbol → Type 0
AreKnown names [] = Unit {0}
AreKnown names (s ∷ ss) = IsKnown names s × AreKnown names ss

-- whether the last symbol passes the test; `none` if there is no symbol
abbrev pub last_is : (Symbol → Bool) → Bool → List Symbol → Bool
last_is test none [] = none
last_is test none (s ∷ []) = test s
last_is test none (s ∷ t ∷ ss) = last_is test none (t ∷ ss)

-- a unit begins after these
abbrev pub opens : Symbol → Bool
opens And = true
opens Or = true
opens Not = true
opens Open = true
opens s = false

abbrev pub is_star : Symbol → Bool
is_star Star = true
is_star s = false

-- each complete sum, constant and modulus in the symbols is within the limits
pub record NumbersFit (names : List (List ℕ)) (ss : List Symbol) : Type 0 where
  pub sums : (before later : List Symbol) (sum : Sum) → ss ≡ before ++ (sum_symbols sum ++ later)
      → last_is opens true before ≡ true → SumFits names sum
  pub constants : (before later : List Symbol) (relation : Relation) (negative : Bool) (digits : List ℕ)
      → ss ≡ before ++ Compare relation ∷ (constant_symbols negative digits ++ later)
      → value_of_digits digits ≤ limit_of relation
  pub moduli : (before later : List Symbol) (digits : List ℕ) → ss ≡ before ++ Mod ∷ Number digits ∷ later
      → (2 ≤ value_of_digits digits) × (value_of_digits digits ≤ MODULUS_LIMIT)

-- the symbols keep all rules on names, numbers and depth
pub record KeepsRules (names : List (List ℕ)) (ss : List Symbol) : Type 0 where
  pub known : AreKnown names ss
  pub numbers : NumbersFit names ss
  pub shallow : IsShallow surface ss
