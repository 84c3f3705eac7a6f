-- A text of the grammar that keeps the rules is read.
use Rattle.std.proofs.Common.{◌≡◌, ℕ, suc, ◌≤◌, Bool, true, false, List, [], ◌∷◌, ◌++◌, Option, Some, None, sym, subst, append_assoc}
use Rattle.std.proofs.lemmas.List.{append-nil}
use Rattle.pres_ast.specs.declared.limits.TheConstants.{MODULUS_LIMIT}
use Rattle.pres_tokens.specs.declared.token.Relation.{Relation}
use Rattle.pres_tokens.specs.declared.token.Relation.TheVariants.{Less, AtMost, Greater, AtLeast, Equal, Unequal}
use Rattle.pres_tokens.specs.Symbols.{Symbol, Name, Number, Plus, Minus, Star, Compare, And, Or, Not, Open, Close, Mod, Stray}
use Rattle.pres_read.specs.Numbers.{value_of_digits}
use Rattle.pres_read.specs.Atoms.{limit_of}
use Rattle.pres_read.specs.Grammar.{Term, bare, times, Sum, first, further, Atom, relational, modular, Part, APred, AConj, AUnit, Phrase, conj, either, unit, both, negate, group, atom, term_symbols, minus_if, plus_or_minus, sum_symbols, equal_or_not, constant_symbols, atom_symbols, symbols, coefs_of}
use Rattle.pres_read.specs.Rules.{TermFits, SumFits, AtomFits, Fits}
use Rattle.pres_read.proofs.Traces.{Lead, begin, after, sum_with, Inner, IUnit, ITerm, IStar, IName, IRelation, IConstant, INumber, IModulo, IModulus, Side, bare_side, Trace, Inside, Done, begun, with_ands, unit_done, trace_step, trace_compared}
use Rattle.pres_read.proofs.Complete.{NoMod, negates-negate, ors_of, last_of, with_ors-last, alone}
use Rattle.pres_read.proofs.Shows.{lead_coefs, lead_negative}

-- the rule on a symbol after a trace
abbrev pub RuleUnit : List (List ℕ) → Lead → Symbol → Type 0
RuleUnit names lead (Name word) = TermFits names (lead_coefs names lead) (lead_negative lead) (bare word)
RuleUnit names lead s = Unit {0}

abbrev pub RuleName : List (List ℕ) → Lead → List ℕ → Symbol → Type 0
RuleName names lead digits (Name word) = TermFits names (lead_coefs names lead) (lead_negative lead) (times digits word)
RuleName names lead digits s = Unit {0}

abbrev pub RuleConstant : Relation → Symbol → Type 0
RuleConstant r (Number digits) = value_of_digits digits ≤ limit_of r
RuleConstant r s = Unit {0}

abbrev pub RuleModulus : Symbol → Type 0
RuleModulus (Number digits) = (2 ≤ value_of_digits digits) × (value_of_digits digits ≤ MODULUS_LIMIT)
RuleModulus s = Unit {0}

abbrev pub RuleInner : List (List ℕ) → Inner → Symbol → Type 0
RuleInner names IUnit s = RuleUnit names (begin false) s
RuleInner names (ITerm lead) s = RuleUnit names lead s
RuleInner names (IStar lead digits) s = Unit {0}
RuleInner names (IName lead digits) s = RuleName names lead digits s
RuleInner names (IRelation sum) s = Unit {0}
RuleInner names (IConstant sum r) s = RuleConstant r s
RuleInner names (INumber sum r) s = RuleConstant r s
RuleInner names (IModulo sum unequal negative digits) s = Unit {0}
RuleInner names (IModulus sum unequal negative digits) s = RuleModulus s

abbrev pub RuleAt : List (List ℕ) → Trace → Symbol → Type 0
RuleAt names (Inside above side inner) s = RuleInner names inner s
RuleAt names (Done above ors c) s = Unit {0}

abbrev pub KeptAfter : Option Trace → (Trace → Type 0) → Type 0
KeptAfter None P = Unit {0}
KeptAfter (Some b) P = P b

-- each symbol keeps its rule
abbrev pub Kept : List (List ℕ) → Trace → List Symbol → Type 0
Kept names a [] = Unit {0}
Kept names a (s ∷ ss) = RuleAt names a s × KeptAfter (trace_step a s) (λ b. Kept names b ss)

-- ---- the symbols of a tree of productions that fits

term_kept : (names : List (List ℕ)) (above : List Side) (side : Side) (lead : Lead) (term : Term) (rest : List Symbol)
    → TermFits names (lead_coefs names lead) (lead_negative lead) term → Kept names (Inside above side (IRelation (sum_with lead term))) rest
    → Kept names (Inside above side (ITerm lead)) (term_symbols term ++ rest)
term_kept names above side lead (bare name) rest f k = (f, k)
term_kept names above side lead (times digits name) rest f k = (tt, (tt, (f, k)))

first_kept : (names : List (List ℕ)) (above : List Side) (side : Side) (negative : Bool) (term : Term) (rest : List Symbol)
    → TermFits names (lead_coefs names (begin negative)) negative term → Kept names (Inside above side (IRelation (first negative term))) rest
    → Kept names (Inside above side IUnit) ((minus_if negative ++ term_symbols term) ++ rest)
first_kept names above side false (bare name) rest f k = (f, k)
first_kept names above side false (times digits name) rest f k = (tt, (tt, (f, k)))
first_kept names above side true (bare name) rest f k = (tt, (f, k))
first_kept names above side true (times digits name) rest f k = (tt, (tt, (tt, (f, k))))

further_kept : (names : List (List ℕ)) (above : List Side) (side : Side) (sum : Sum) (negative : Bool) (term : Term) (rest : List Symbol)
    → TermFits names (coefs_of names sum) negative term → Kept names (Inside above side (IRelation (further sum negative term))) rest
    → Kept names (Inside above side (IRelation sum)) (plus_or_minus negative ∷ (term_symbols term ++ rest))
further_kept names above side sum false term rest f k = (tt, term_kept names above side (after sum false) term rest f k)
further_kept names above side sum true term rest f k = (tt, term_kept names above side (after sum true) term rest f k)

sum_kept : (names : List (List ℕ)) (above : List Side) (side : Side) (sum : Sum) (rest : List Symbol)
    → SumFits names sum → Kept names (Inside above side (IRelation sum)) rest → Kept names (Inside above side IUnit) (sum_symbols sum ++ rest)
sum_kept names above side (first negative term) rest f k = first_kept names above side negative term rest f k
sum_kept names above side (further sum negative term) rest f k =
    subst (Kept names (Inside above side IUnit)) (sym (append_assoc (sum_symbols sum) (plus_or_minus negative ∷ term_symbols term) rest))
    (sum_kept names above side sum (plus_or_minus negative ∷ (term_symbols term ++ rest)) f.0 (further_kept names above side sum negative term rest f.1 k))

constant_kept : (names : List (List ℕ)) (above : List Side) (side : Side) (sum : Sum) (r : Relation) (negative : Bool) (digits : List ℕ) (rest : List Symbol)
    → value_of_digits digits ≤ limit_of r → Kept names (trace_compared above side sum r negative digits) rest
    → Kept names (Inside above side (IRelation sum)) (Compare r ∷ (constant_symbols negative digits ++ rest))
constant_kept names above side sum r false digits rest f k = (tt, (f, k))
constant_kept names above side sum r true digits rest f k = (tt, (tt, (f, k)))

modulo_kept : (names : List (List ℕ)) (above : List Side) (side : Side) (sum : Sum) (unequal negative : Bool) (digits : List ℕ) (rest : List Symbol) → NoMod rest
    → Kept names (unit_done above side (atom (relational sum (equal_or_not unequal) negative digits))) rest → Kept names (Inside above side (IModulo sum unequal negative digits)) rest
modulo_kept names above side sum unequal negative digits [] h k = tt
modulo_kept names above side sum unequal negative digits (Name word ∷ ss) h k = k
modulo_kept names above side sum unequal negative digits (Number ds ∷ ss) h k = k
modulo_kept names above side sum unequal negative digits (Plus ∷ ss) h k = k
modulo_kept names above side sum unequal negative digits (Minus ∷ ss) h k = k
modulo_kept names above side sum unequal negative digits (Star ∷ ss) h k = k
modulo_kept names above side sum unequal negative digits (Compare r ∷ ss) h k = k
modulo_kept names above side sum unequal negative digits (And ∷ ss) h k = k
modulo_kept names above side sum unequal negative digits (Or ∷ ss) h k = k
modulo_kept names above side sum unequal negative digits (Not ∷ ss) h k = k
modulo_kept names above side sum unequal negative digits (Open ∷ ss) h k = k
modulo_kept names above side sum unequal negative digits (Close ∷ ss) h k = k
modulo_kept names above side sum unequal negative digits (Mod ∷ ss) h k = absurd h
modulo_kept names above side sum unequal negative digits (Stray ∷ ss) h k = k

compared_kept : (names : List (List ℕ)) (above : List Side) (side : Side) (sum : Sum) (r : Relation) (negative : Bool) (digits : List ℕ) (rest : List Symbol) → NoMod rest
    → Kept names (unit_done above side (atom (relational sum r negative digits))) rest → Kept names (trace_compared above side sum r negative digits) rest
compared_kept names above side sum Less negative digits rest h k = k
compared_kept names above side sum AtMost negative digits rest h k = k
compared_kept names above side sum Greater negative digits rest h k = k
compared_kept names above side sum AtLeast negative digits rest h k = k
compared_kept names above side sum Equal negative digits rest h k = modulo_kept names above side sum false negative digits rest h k
compared_kept names above side sum Unequal negative digits rest h k = modulo_kept names above side sum true negative digits rest h k

modular_kept : (names : List (List ℕ)) (above : List Side) (side : Side) (sum : Sum) (unequal negative : Bool) (digits modulus : List ℕ) (rest : List Symbol)
    → (2 ≤ value_of_digits modulus) × (value_of_digits modulus ≤ MODULUS_LIMIT) → Kept names (unit_done above side (atom (modular sum unequal negative digits modulus))) rest
    → Kept names (trace_compared above side sum (equal_or_not unequal) negative digits) (Mod ∷ Number modulus ∷ rest)
modular_kept names above side sum false negative digits modulus rest f k = (tt, (f, k))
modular_kept names above side sum true negative digits modulus rest f k = (tt, (f, k))

atom_kept : (names : List (List ℕ)) (above : List Side) (side : Side) (a : Atom) (rest : List Symbol) → NoMod rest → AtomFits names a
    → Kept names (unit_done above side (atom a)) rest → Kept names (Inside above side IUnit) (atom_symbols a ++ rest)
atom_kept names above side (relational sum r negative digits) rest h f k =
    subst (Kept names (Inside above side IUnit)) (sym (append_assoc (sum_symbols sum) (Compare r ∷ constant_symbols negative digits) rest))
    (sum_kept names above side sum (Compare r ∷ (constant_symbols negative digits ++ rest)) f.0
    (constant_kept names above side sum r negative digits rest f.1 (compared_kept names above side sum r negative digits rest h k)))
atom_kept names above side (modular sum unequal negative digits modulus) rest h f k =
    let flat : atom_symbols (modular sum unequal negative digits modulus) ++ rest ≡ sum_symbols sum ++ (Compare (equal_or_not unequal) ∷ (constant_symbols negative digits ++ (Mod ∷ Number modulus ∷ rest))) = simp append_assoc in
    subst (Kept names (Inside above side IUnit)) (sym flat)
    (sum_kept names above side sum (Compare (equal_or_not unequal) ∷ (constant_symbols negative digits ++ (Mod ∷ Number modulus ∷ rest))) f.0
    (constant_kept names above side sum (equal_or_not unequal) negative digits (Mod ∷ Number modulus ∷ rest) f.1
    (modular_kept names above side sum unequal negative digits modulus rest (f.2, f.3) k)))

abbrev KeepsTo : List (List ℕ) → (part : Part) → Phrase part → Type 0
KeepsTo names APred p = (above : List Side) (rest : List Symbol) → NoMod rest → Kept names (Done above (ors_of p) (last_of p)) rest
    → Kept names (Inside above bare_side IUnit) (symbols p ++ rest)
KeepsTo names AConj c = (above : List Side) (ors : Option (Phrase APred)) (rest : List Symbol) → NoMod rest → Kept names (Done above ors c) rest
    → Kept names (Inside above (alone ors None) IUnit) (symbols c ++ rest)
KeepsTo names AUnit u = (above : List Side) (side : Side) (rest : List Symbol) → NoMod rest → Kept names (unit_done above side u) rest
    → Kept names (Inside above side IUnit) (symbols u ++ rest)

keeps : {part : Part} (names : List (List ℕ)) (p : Phrase part) → Fits names p → KeepsTo names part p
keeps names (conj c) f = λ above rest h k. keeps names c f above None rest h k
keeps names (either p c) f = λ above rest h k.
    subst (Kept names (Inside above bare_side IUnit)) (sym (append_assoc (symbols p) (Or ∷ symbols c) rest))
    (keeps names p f.0 above (Or ∷ (symbols c ++ rest)) tt
    (tt, subst (λ (q : Phrase APred). Kept names (Inside above (alone (Some q) None) IUnit) (symbols c ++ rest)) (sym (with_ors-last p)) (keeps names c f.1 above (Some p) rest h k)))
keeps names (unit u) f = λ above ors rest h k. keeps names u f above (alone ors None) rest h k
keeps names (both c u) f = λ above ors rest h k.
    subst (Kept names (Inside above (alone ors None) IUnit)) (sym (append_assoc (symbols c) (And ∷ symbols u) rest))
    (keeps names c f.0 above ors (And ∷ (symbols u ++ rest)) tt (tt, keeps names u f.1 above (alone ors (Some c)) rest h k))
keeps names (negate u) f = λ above side rest h k. (
  tt,
  keeps names u f above (record { ors = side.ors; ands = side.ands; nots = suc side.nots }) rest h
      (subst (λ (v : Phrase AUnit). Kept names (Done above side.ors (with_ands side.ands v)) rest) (negates-negate side.nots u) k),
)
keeps names (group p) f = λ above side rest h k. (
  tt,
  subst (Kept names (Inside (side ∷ above) bare_side IUnit)) (sym (append_assoc (symbols p) (Close ∷ []) rest))
      (keeps names p f (side ∷ above) (Close ∷ rest) tt
      (tt, subst (λ (q : Phrase APred). Kept names (unit_done above side (group q)) rest) (sym (with_ors-last p)) k)),
)
keeps names (atom a) f = λ above side rest h k. atom_kept names above side a rest h f k

pub kept_symbols : (names : List (List ℕ)) (p : Phrase APred) → Fits names p → Kept names begun (symbols p)
kept_symbols names p f = subst (Kept names begun) (append-nil (symbols p)) (keeps names p f [] [] tt tt)
