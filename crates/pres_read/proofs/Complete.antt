-- Reading the symbols of a tree of productions builds that tree.
use Rattle.std.proofs.Common.{◌≡◌, ℕ, zero, suc, Bool, true, false, List, [], ◌∷◌, ◌++◌, Option, Some, None, refl, sym, ap, ◌∙◌, append_assoc}
use Rattle.std.proofs.lemmas.List.{append-nil}
use Rattle.pres_tokens.specs.declared.token.Relation.{Relation}
use Rattle.pres_tokens.specs.declared.token.Relation.TheVariants.{Less, AtMost, Greater, AtLeast, Equal, Unequal}
use Rattle.pres_tokens.specs.Symbols.{Symbol, Name, Number, Plus, Minus, Star, Compare, And, Or, Not, Open, Close, Mod, Stray}
use Rattle.pres_read.specs.Grammar.{Term, bare, times, Sum, first, further, Atom, relational, modular, Part, APred, AConj, AUnit, Phrase, conj, either, unit, both, negate, group, atom, term_symbols, minus_if, plus_or_minus, sum_symbols, equal_or_not, constant_symbols, atom_symbols, symbols}
use Rattle.pres_read.proofs.Traces.{Lead, after, sum_with, IUnit, ITerm, IRelation, IModulo, Side, bare_side, Inside, Done, begun, negates, with_ands, with_ors, unit_done, trace_read, trace_compared}

-- the symbols don't begin with `mod`
abbrev pub NoMod : List Symbol → Type 0
NoMod [] = Unit {0}
NoMod (Name word ∷ ss) = Unit {0}
NoMod (Number digits ∷ ss) = Unit {0}
NoMod (Plus ∷ ss) = Unit {0}
NoMod (Minus ∷ ss) = Unit {0}
NoMod (Star ∷ ss) = Unit {0}
NoMod (Compare r ∷ ss) = Unit {0}
NoMod (And ∷ ss) = Unit {0}
NoMod (Or ∷ ss) = Unit {0}
NoMod (Not ∷ ss) = Unit {0}
NoMod (Open ∷ ss) = Unit {0}
NoMod (Close ∷ ss) = Unit {0}
NoMod (Mod ∷ ss) = ⊥
NoMod (Stray ∷ ss) = Unit {0}

term_run : (above : List Side) (side : Side) (lead : Lead) (term : Term) (rest : List Symbol)
    → trace_read (Inside above side (ITerm lead)) (term_symbols term ++ rest) ≡ trace_read (Inside above side (IRelation (sum_with lead term))) rest
term_run above side lead (bare name) rest = refl
term_run above side lead (times digits name) rest = refl

first_run : (above : List Side) (side : Side) (negative : Bool) (term : Term) (rest : List Symbol)
    → trace_read (Inside above side IUnit) ((minus_if negative ++ term_symbols term) ++ rest) ≡ trace_read (Inside above side (IRelation (first negative term))) rest
first_run above side false (bare name) rest = refl
first_run above side false (times digits name) rest = refl
first_run above side true (bare name) rest = refl
first_run above side true (times digits name) rest = refl

further_run : (above : List Side) (side : Side) (sum : Sum) (negative : Bool) (term : Term) (rest : List Symbol)
    → trace_read (Inside above side (IRelation sum)) (plus_or_minus negative ∷ (term_symbols term ++ rest)) ≡ trace_read (Inside above side (IRelation (further sum negative term))) rest
further_run above side sum false term rest = term_run above side (after sum false) term rest
further_run above side sum true term rest = term_run above side (after sum true) term rest

sum_run : (above : List Side) (side : Side) (sum : Sum) (rest : List Symbol)
    → trace_read (Inside above side IUnit) (sum_symbols sum ++ rest) ≡ trace_read (Inside above side (IRelation sum)) rest
sum_run above side (first negative term) rest = first_run above side negative term rest
sum_run above side (further sum negative term) rest =
    ap (trace_read (Inside above side IUnit)) (append_assoc (sum_symbols sum) (plus_or_minus negative ∷ term_symbols term) rest)
    ∙ sum_run above side sum (plus_or_minus negative ∷ (term_symbols term ++ rest))
    ∙ further_run above side sum negative term rest

constant_run : (above : List Side) (side : Side) (sum : Sum) (r : Relation) (negative : Bool) (digits : List ℕ) (rest : List Symbol)
    → trace_read (Inside above side (IRelation sum)) (Compare r ∷ (constant_symbols negative digits ++ rest)) ≡ trace_read (trace_compared above side sum r negative digits) rest
constant_run above side sum r false digits rest = refl
constant_run above side sum r true digits rest = refl

-- if `mod` doesn't follow, the atom is done
modulo_read : (above : List Side) (side : Side) (sum : Sum) (unequal negative : Bool) (digits : List ℕ) (rest : List Symbol) → NoMod rest
    → trace_read (Inside above side (IModulo sum unequal negative digits)) rest ≡ trace_read (unit_done above side (atom (relational sum (equal_or_not unequal) negative digits))) rest
modulo_read above side sum unequal negative digits [] h = refl
modulo_read above side sum unequal negative digits (Name word ∷ ss) h = refl
modulo_read above side sum unequal negative digits (Number ds ∷ ss) h = refl
modulo_read above side sum unequal negative digits (Plus ∷ ss) h = refl
modulo_read above side sum unequal negative digits (Minus ∷ ss) h = refl
modulo_read above side sum unequal negative digits (Star ∷ ss) h = refl
modulo_read above side sum unequal negative digits (Compare r ∷ ss) h = refl
modulo_read above side sum unequal negative digits (And ∷ ss) h = refl
modulo_read above side sum unequal negative digits (Or ∷ ss) h = refl
modulo_read above side sum unequal negative digits (Not ∷ ss) h = refl
modulo_read above side sum unequal negative digits (Open ∷ ss) h = refl
modulo_read above side sum unequal negative digits (Close ∷ ss) h = refl
modulo_read above side sum unequal negative digits (Mod ∷ ss) h = absurd h
modulo_read above side sum unequal negative digits (Stray ∷ ss) h = refl

compared_read : (above : List Side) (side : Side) (sum : Sum) (r : Relation) (negative : Bool) (digits : List ℕ) (rest : List Symbol) → NoMod rest
    → trace_read (trace_compared above side sum r negative digits) rest ≡ trace_read (unit_done above side (atom (relational sum r negative digits))) rest
compared_read above side sum Less negative digits rest h = refl
compared_read above side sum AtMost negative digits rest h = refl
compared_read above side sum Greater negative digits rest h = refl
compared_read above side sum AtLeast negative digits rest h = refl
compared_read above side sum Equal negative digits rest h = modulo_read above side sum false negative digits rest h
compared_read above side sum Unequal negative digits rest h = modulo_read above side sum true negative digits rest h

modular_read : (above : List Side) (side : Side) (sum : Sum) (unequal negative : Bool) (digits modulus : List ℕ) (rest : List Symbol)
    → trace_read (trace_compared above side sum (equal_or_not unequal) negative digits) (Mod ∷ Number modulus ∷ rest) ≡ trace_read (unit_done above side (atom (modular sum unequal negative digits modulus))) rest
modular_read above side sum false negative digits modulus rest = refl
modular_read above side sum true negative digits modulus rest = refl

atom_read : (above : List Side) (side : Side) (a : Atom) (rest : List Symbol) → NoMod rest
    → trace_read (Inside above side IUnit) (atom_symbols a ++ rest) ≡ trace_read (unit_done above side (atom a)) rest
atom_read above side (relational sum r negative digits) rest h =
    ap (trace_read (Inside above side IUnit)) (append_assoc (sum_symbols sum) (Compare r ∷ constant_symbols negative digits) rest)
    ∙ sum_run above side sum (Compare r ∷ (constant_symbols negative digits ++ rest))
    ∙ constant_run above side sum r negative digits rest
    ∙ compared_read above side sum r negative digits rest h
atom_read above side (modular sum unequal negative digits modulus) rest h =
    ap (trace_read (Inside above side IUnit))
    (append_assoc (sum_symbols sum) (Compare (equal_or_not unequal) ∷ (constant_symbols negative digits ++ Mod ∷ Number modulus ∷ [])) rest
    ∙ ap (λ ss. sum_symbols sum ++ Compare (equal_or_not unequal) ∷ ss) (append_assoc (constant_symbols negative digits) (Mod ∷ Number modulus ∷ []) rest))
    ∙ sum_run above side sum (Compare (equal_or_not unequal) ∷ (constant_symbols negative digits ++ (Mod ∷ Number modulus ∷ rest)))
    ∙ constant_run above side sum (equal_or_not unequal) negative digits (Mod ∷ Number modulus ∷ rest)
    ∙ modular_read above side sum unequal negative digits modulus rest

pub negates-negate : (k : ℕ) (u : Phrase AUnit) → negates k (negate u) ≡ negate (negates k u)
negates-negate zero u = refl
negates-negate (suc k) u = ap negate (negates-negate k u)

-- the disjunction before the last `||`, and the conjunction after it
abbrev pub ors_of : Phrase APred → Option (Phrase APred)
ors_of (conj c) = None
ors_of (either p c) = Some p

abbrev pub last_of : Phrase APred → Phrase AConj
last_of (conj c) = c
last_of (either p c) = c

pub with_ors-last : (p : Phrase APred) → with_ors (ors_of p) (last_of p) ≡ p
with_ors-last (conj c) = refl
with_ors-last (either p c) = refl

abbrev pub alone : Option (Phrase APred) → Option (Phrase AConj) → Side
alone ors ands = record { ors = ors; ands = ands; nots = 0 }

abbrev Reads : (part : Part) → Phrase part → Type 0
Reads APred p = (above : List Side) (rest : List Symbol) → NoMod rest
    → trace_read (Inside above bare_side IUnit) (symbols p ++ rest) ≡ trace_read (Done above (ors_of p) (last_of p)) rest
Reads AConj c = (above : List Side) (ors : Option (Phrase APred)) (rest : List Symbol) → NoMod rest
    → trace_read (Inside above (alone ors None) IUnit) (symbols c ++ rest) ≡ trace_read (Done above ors c) rest
Reads AUnit u = (above : List Side) (side : Side) (rest : List Symbol) → NoMod rest
    → trace_read (Inside above side IUnit) (symbols u ++ rest) ≡ trace_read (unit_done above side u) rest

reads : {part : Part} (p : Phrase part) → Reads part p
reads (conj c) = λ above rest h. reads c above None rest h
reads (either p c) = λ above rest h.
    ap (trace_read (Inside above bare_side IUnit)) (append_assoc (symbols p) (Or ∷ symbols c) rest)
    ∙ reads p above (Or ∷ (symbols c ++ rest)) tt
    ∙ ap (λ q. trace_read (Inside above (alone (Some q) None) IUnit) (symbols c ++ rest)) (with_ors-last p)
    ∙ reads c above (Some p) rest h
reads (unit u) = λ above ors rest h. reads u above (alone ors None) rest h
reads (both c u) = λ above ors rest h.
    ap (trace_read (Inside above (alone ors None) IUnit)) (append_assoc (symbols c) (And ∷ symbols u) rest)
    ∙ reads c above ors (And ∷ (symbols u ++ rest)) tt
    ∙ reads u above (alone ors (Some c)) rest h
reads (negate u) = λ above side rest h.
    reads u above (record { ors = side.ors; ands = side.ands; nots = suc side.nots }) rest h
    ∙ ap (λ v. trace_read (Done above side.ors (with_ands side.ands v)) rest) (sym (negates-negate side.nots u))
reads (group p) = λ above side rest h.
    ap (trace_read (Inside (side ∷ above) bare_side IUnit)) (append_assoc (symbols p) (Close ∷ []) rest)
    ∙ reads p (side ∷ above) (Close ∷ rest) tt
    ∙ ap (λ q. trace_read (unit_done above side (group q)) rest) (with_ors-last p)
reads (atom a) = λ above side rest h. atom_read above side a rest h

-- the symbols of a tree of productions are read as that tree
pub trace_read-symbols : (p : Phrase APred) → trace_read begun (symbols p) ≡ Some p
trace_read-symbols p =
    ap (trace_read begun) (sym (append-nil (symbols p))) ∙ reads p [] [] tt ∙ ap Some (with_ors-last p)
