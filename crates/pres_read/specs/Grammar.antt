-- The grammar: the trees of its productions, the symbols that each is spelled with, and the predicate that each means.
--
--   pred := conj | pred "||" conj
--   conj := unit | conj "&&" unit
--   unit := "!" unit | "(" pred ")" | atom
--   atom := sum rel [ "-" ] number | sum ( "=" | "!=" ) [ "-" ] number "mod" number
--   sum  := [ "-" ] term | sum ( "+" | "-" ) term
--   term := name | number "*" name
use Rattle.std.specs.Prelude.{◌≡◌, ℕ, Bool, true, false, List, [], ◌∷◌, ◌++◌, Option, Some, None, position, slice_set}
use Rattle.std.specs.Prelude.{slice_index_or, ℤ, pos, ◌+ℤ◌}
use Rattle.std.specs.Str.{bytes_eq}
use Rattle.pres_ast.specs.PredTree.{PredTree, Negation, Conjunction, Disjunction}
use Rattle.pres_tokens.specs.declared.token.Relation.{Relation}
use Rattle.pres_tokens.specs.declared.token.Relation.TheVariants.{Equal, Unequal}
use Rattle.pres_tokens.specs.Symbols.{Symbol, Name, Number, Plus, Minus, Star, Compare, And, Or, Not, Open, Close, Mod}
use Rattle.pres_read.specs.Numbers.{value_of_digits}
use Rattle.pres_read.specs.Atoms.{signed_number, compared_tree, congruent_tree}
use Rattle.pres_read.specs.Atoms.{zero_coefs}

pub data Term : Type 0 where
  bare : (name : List ℕ) → Term
  times : (digits name : List ℕ) → Term

pub data Sum : Type 0 where
  first : (negative : Bool) (term : Term) → Sum
  further : (sum : Sum) (negative : Bool) (term : Term) → Sum

pub data Atom : Type 0 where
  relational : (sum : Sum) (relation : Relation) (negative : Bool) (digits : List ℕ) → Atom
  modular : (sum : Sum) (unequal negative : Bool) (digits modulus : List ℕ) → Atom

pub data Part : Type 0 where
  APred : Part
  AConj : Part
  AUnit : Part

pub data Phrase : Part → Type 0 where
  conj : Phrase AConj → Phrase APred
  either : Phrase APred → Phrase AConj → Phrase APred
  unit : Phrase AUnit → Phrase AConj
  both : Phrase AConj → Phrase AUnit → Phrase AConj
  negate : Phrase AUnit → Phrase AUnit
  group : Phrase APred → Phrase AUnit
  atom : Atom → Phrase AUnit

-- ---- the symbols

abbrev pub term_symbols : Term → List Symbol
term_symbols (bare name) = Name name ∷ []
term_symbols (times digits name) = Number digits ∷ Star ∷ Name name ∷ []

-- a sign that may precede a term or a constant
abbrev pub minus_if : Bool → List Symbol
minus_if false = []
minus_if true = Minus ∷ []

abbrev pub plus_or_minus : Bool → Symbol
plus_or_minus false = Plus
plus_or_minus true = Minus

abbrev pub sum_symbols : Sum → List Symbol
sum_symbols (first negative term) = minus_if negative ++ term_symbols term
sum_symbols (further sum negative term) = sum_symbols sum ++ plus_or_minus negative ∷ term_symbols term

abbrev pub equal_or_not : Bool → Relation
equal_or_not false = Equal
equal_or_not true = Unequal

abbrev pub constant_symbols : Bool → List ℕ → List Symbol
constant_symbols negative digits = minus_if negative ++ Number digits ∷ []

abbrev pub atom_symbols : Atom → List Symbol
atom_symbols (relational sum relation negative digits) =
    sum_symbols sum ++ Compare relation ∷ constant_symbols negative digits
atom_symbols (modular sum unequal negative digits modulus) =
    sum_symbols sum ++ Compare (equal_or_not unequal) ∷ (constant_symbols negative digits ++ Mod ∷ Number modulus ∷ [])

abbrev pub symbols : {part : Part} → Phrase part → List Symbol
symbols (conj p) = symbols p
symbols (either p q) = symbols p ++ Or ∷ symbols q
symbols (unit p) = symbols p
symbols (both p q) = symbols p ++ And ∷ symbols q
symbols (negate p) = Not ∷ symbols p
symbols (group p) = Open ∷ (symbols p ++ Close ∷ [])
symbols (atom a) = atom_symbols a

-- ---- the predicate over these names

abbrev pub term_name : Term → List ℕ
term_name (bare name) = name
term_name (times digits name) = name

-- a name alone counts once
abbrev pub term_number : Term → ℕ
term_number (bare name) = 1
term_number (times digits name) = value_of_digits digits

abbrev pub raised : List ℤ → Option ℕ → ℤ → List ℤ
raised coefs None z = coefs
raised coefs (Some i) z = slice_set coefs i (slice_index_or coefs i (pos 0) +ℤ z)

-- the coefficients with a further term: those of equal names add up
abbrev pub with_a_term : List (List ℕ) → List ℤ → Bool → Term → List ℤ
with_a_term names coefs negative term =
    raised coefs (position (bytes_eq (term_name term)) names) (signed_number negative (term_number term))

abbrev pub coefs_of : List (List ℕ) → Sum → List ℤ
coefs_of names (first negative term) = with_a_term names (zero_coefs names) negative term
coefs_of names (further sum negative term) = with_a_term names (coefs_of names sum) negative term

abbrev pub atom_meaning : List (List ℕ) → Atom → PredTree
atom_meaning names (relational sum relation negative digits) =
    compared_tree (coefs_of names sum) relation (signed_number negative (value_of_digits digits))
atom_meaning names (modular sum unequal negative digits modulus) =
    congruent_tree (coefs_of names sum) unequal (signed_number negative (value_of_digits digits))
    (value_of_digits modulus)

abbrev pub meaning : {part : Part} → List (List ℕ) → Phrase part → PredTree
meaning names (conj p) = meaning names p
meaning names (either p q) = Disjunction (meaning names p) (meaning names q)
meaning names (unit p) = meaning names p
meaning names (both p q) = Conjunction (meaning names p) (meaning names q)
meaning names (negate p) = Negation (meaning names p)
meaning names (group p) = meaning names p
meaning names (atom a) = atom_meaning names a

-- the grammar relates the symbols to the tree
pub record Derives (names : List (List ℕ)) (text : List Symbol) (tree : PredTree) : Type 0 where
  pub phrase : Phrase APred
  pub spelled : symbols phrase ≡ text
  pub means : meaning names phrase ≡ tree
