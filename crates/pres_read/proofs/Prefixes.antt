-- The symbols that a trace was read from, and how they can go on to a text of the grammar.
use Rattle.std.proofs.Common.{◌≡◌, ℕ, zero, suc, Bool, true, false, List, [], ◌∷◌, ◌++◌, Option, Some, None, refl, sym, ap, subst, ◌∙◌, append_assoc}
use Rattle.std.proofs.lemmas.List.{append-nil}
use Rattle.std.specs.Prelude.{IfSome}
use Rattle.pres_tokens.specs.declared.token.Relation.{Relation}
use Rattle.pres_tokens.specs.declared.token.Relation.TheVariants.{Less, AtMost, Greater, AtLeast, Equal, Unequal}
use Rattle.pres_tokens.specs.Symbols.{Symbol, Name, Number, Plus, Minus, Star, Compare, And, Or, Not, Open, Close, Mod}
use Rattle.pres_read.specs.Grammar.{Term, bare, times, Sum, Atom, relational, modular, APred, AConj, AUnit, Phrase, group, atom, term_symbols, minus_if, plus_or_minus, sum_symbols, equal_or_not, constant_symbols, atom_symbols, symbols}
use Rattle.pres_read.proofs.Traces.{Lead, begin, after, sum_with, Inner, IUnit, ITerm, IStar, IName, IRelation, IConstant, INumber, IModulo, IModulus, Side, Trace, Inside, Done, negates, with_ands, with_ors, conj_of, unit_done, trace_closed, trace_sign, trace_term, trace_unit, trace_star, trace_name, trace_relation, trace_compared, trace_number, trace_constant, equality_conj, trace_modulo, trace_modulus, trace_inner, trace_step, trace_goes_by, trace_run, trace_ended, trace_inner_end, trace_end}

abbrev pub nots_prefix : ℕ → List Symbol
nots_prefix zero = []
nots_prefix (suc k) = Not ∷ nots_prefix k

abbrev pub ors_prefix : Option (Phrase APred) → List Symbol
ors_prefix None = []
ors_prefix (Some p) = symbols p ++ Or ∷ []

abbrev pub ands_prefix : Option (Phrase AConj) → List Symbol
ands_prefix None = []
ands_prefix (Some c) = symbols c ++ And ∷ []

abbrev pub side_prefix : Side → List Symbol
side_prefix side = ors_prefix side.ors ++ (ands_prefix side.ands ++ nots_prefix side.nots)

abbrev pub above_prefix : List Side → List Symbol
above_prefix [] = []
above_prefix (side ∷ above) = above_prefix above ++ (side_prefix side ++ Open ∷ [])

abbrev pub lead_prefix : Lead → List Symbol
lead_prefix (begin negative) = minus_if negative
lead_prefix (after sum negative) = sum_symbols sum ++ plus_or_minus negative ∷ []

abbrev pub inner_prefix : Inner → List Symbol
inner_prefix IUnit = []
inner_prefix (ITerm lead) = lead_prefix lead
inner_prefix (IStar lead digits) = lead_prefix lead ++ Number digits ∷ []
inner_prefix (IName lead digits) = lead_prefix lead ++ Number digits ∷ Star ∷ []
inner_prefix (IRelation sum) = sum_symbols sum
inner_prefix (IConstant sum r) = sum_symbols sum ++ Compare r ∷ []
inner_prefix (INumber sum r) = sum_symbols sum ++ Compare r ∷ Minus ∷ []
inner_prefix (IModulo sum unequal negative digits) = sum_symbols sum ++ Compare (equal_or_not unequal) ∷ constant_symbols negative digits
inner_prefix (IModulus sum unequal negative digits) =
    sum_symbols sum ++ Compare (equal_or_not unequal) ∷ (constant_symbols negative digits ++ Mod ∷ [])

abbrev pub prefix : Trace → List Symbol
prefix (Inside above side inner) = above_prefix above ++ (side_prefix side ++ inner_prefix inner)
prefix (Done above ors c) = above_prefix above ++ (ors_prefix ors ++ symbols c)

-- ---- one symbol further

pub symbols-sum_with : (lead : Lead) (term : Term) → sum_symbols (sum_with lead term) ≡ lead_prefix lead ++ term_symbols term
symbols-sum_with (begin negative) term = refl
symbols-sum_with (after sum negative) term = sym (append_assoc (sum_symbols sum) (plus_or_minus negative ∷ []) (term_symbols term))

nots-push : (k : ℕ) → nots_prefix (suc k) ≡ nots_prefix k ++ Not ∷ []
nots-push zero = refl
nots-push (suc k) = ap (λ ss. Not ∷ ss) (nots-push k)

symbols-negates : (k : ℕ) (u : Phrase AUnit) → symbols (negates k u) ≡ nots_prefix k ++ symbols u
symbols-negates zero u = refl
symbols-negates (suc k) u = ap (λ ss. Not ∷ ss) (symbols-negates k u)

symbols-with_ands : (o : Option (Phrase AConj)) (u : Phrase AUnit) → symbols (with_ands o u) ≡ ands_prefix o ++ symbols u
symbols-with_ands None u = refl
symbols-with_ands (Some c) u = sym (append_assoc (symbols c) (And ∷ []) (symbols u))

pub symbols-with_ors : (o : Option (Phrase APred)) (c : Phrase AConj) → symbols (with_ors o c) ≡ ors_prefix o ++ symbols c
symbols-with_ors None c = refl
symbols-with_ors (Some p) c = sym (append_assoc (symbols p) (Or ∷ []) (symbols c))

symbols-conj_of : (side : Side) (u : Phrase AUnit) → symbols (conj_of side u) ≡ ands_prefix side.ands ++ (nots_prefix side.nots ++ symbols u)
symbols-conj_of side u =
    symbols-with_ands side.ands (negates side.nots u) ∙ ap (λ ss. ands_prefix side.ands ++ ss) (symbols-negates side.nots u)

-- a unit whose symbols end with those that come next
pub prefix-unit_done : (above : List Side) (side : Side) (u : Phrase AUnit) → prefix (unit_done above side u) ≡ above_prefix above ++ (side_prefix side ++ symbols u)
prefix-unit_done above side u =
    ap (λ ss. above_prefix above ++ (ors_prefix side.ors ++ ss)) (symbols-conj_of side u)
    ∙ ap (λ ss. above_prefix above ++ ss) (simp append_assoc)

-- the place of `inner` grows by `more`
grown : (above : List Side) (side : Side) (inner next : List Symbol) (s : Symbol) → next ≡ inner ++ s ∷ []
    → above_prefix above ++ (side_prefix side ++ next) ≡ (above_prefix above ++ (side_prefix side ++ inner)) ++ s ∷ []
grown above side inner next s e = rw e (simp append_assoc)

abbrev Follows : Option Trace → List Symbol → Type 0
Follows o whole = IfSome o (λ b. prefix b ≡ whole)

closed_follows : (above : List Side) (p : Phrase APred) → Follows (trace_closed above p) ((above_prefix above ++ symbols p) ++ Close ∷ [])
closed_follows [] p = tt
closed_follows (side ∷ above) p = prefix-unit_done above side (group p) ∙ simp append_assoc

sign_follows : (above : List Side) (ors : Option (Phrase APred)) (c : Phrase AConj) (s : Symbol)
    → Follows (trace_sign above ors c s) ((above_prefix above ++ (ors_prefix ors ++ symbols c)) ++ s ∷ [])
sign_follows above ors c And = simp (append_assoc, append-nil)
sign_follows above ors c Or = rw (symbols-with_ors ors c) (simp (append_assoc, append-nil))
sign_follows above ors c Close =
    subst (λ (ss : List Symbol). Follows (trace_closed above (with_ors ors c)) ((above_prefix above ++ ss) ++ Close ∷ [])) (symbols-with_ors ors c) (closed_follows above (with_ors ors c))
sign_follows above ors c s = tt

term_follows : (above : List Side) (side : Side) (lead : Lead) (s : Symbol)
    → Follows (trace_term above side lead s) ((above_prefix above ++ (side_prefix side ++ lead_prefix lead)) ++ s ∷ [])
term_follows above side lead (Name word) = grown above side (lead_prefix lead) (sum_symbols (sum_with lead (bare word))) (Name word) (symbols-sum_with lead (bare word))
term_follows above side lead (Number digits) = grown above side (lead_prefix lead) (lead_prefix lead ++ Number digits ∷ []) (Number digits) refl
term_follows above side lead s = tt

unit_follows : (above : List Side) (side : Side) (s : Symbol)
    → Follows (trace_unit above side s) ((above_prefix above ++ (side_prefix side ++ [])) ++ s ∷ [])
unit_follows above side Not = rw (nots-push side.nots) (simp (append_assoc, append-nil))
unit_follows above side Open = simp (append_assoc, append-nil)
unit_follows above side Minus = grown above side [] (Minus ∷ []) Minus refl
unit_follows above side s = term_follows above side (begin false) s

star_follows : (above : List Side) (side : Side) (lead : Lead) (digits : List ℕ) (s : Symbol)
    → Follows (trace_star above side lead digits s) ((above_prefix above ++ (side_prefix side ++ (lead_prefix lead ++ Number digits ∷ []))) ++ s ∷ [])
star_follows above side lead digits Star =
    grown above side (lead_prefix lead ++ Number digits ∷ []) (lead_prefix lead ++ Number digits ∷ Star ∷ []) Star (sym (append_assoc (lead_prefix lead) (Number digits ∷ []) (Star ∷ [])))
star_follows above side lead digits s = tt

name_follows : (above : List Side) (side : Side) (lead : Lead) (digits : List ℕ) (s : Symbol)
    → Follows (trace_name above side lead digits s) ((above_prefix above ++ (side_prefix side ++ (lead_prefix lead ++ Number digits ∷ Star ∷ []))) ++ s ∷ [])
name_follows above side lead digits (Name word) =
    grown above side (lead_prefix lead ++ Number digits ∷ Star ∷ []) (sum_symbols (sum_with lead (times digits word))) (Name word)
    (symbols-sum_with lead (times digits word) ∙ sym (append_assoc (lead_prefix lead) (Number digits ∷ Star ∷ []) (Name word ∷ [])))
name_follows above side lead digits s = tt

relation_follows : (above : List Side) (side : Side) (sum : Sum) (s : Symbol)
    → Follows (trace_relation above side sum s) ((above_prefix above ++ (side_prefix side ++ sum_symbols sum)) ++ s ∷ [])
relation_follows above side sum Plus = grown above side (sum_symbols sum) (sum_symbols sum ++ Plus ∷ []) Plus refl
relation_follows above side sum Minus = grown above side (sum_symbols sum) (sum_symbols sum ++ Minus ∷ []) Minus refl
relation_follows above side sum (Compare r) = grown above side (sum_symbols sum) (sum_symbols sum ++ Compare r ∷ []) (Compare r) refl
relation_follows above side sum s = tt

atom_done : (above : List Side) (side : Side) (inner : List Symbol) (a : Atom) (s : Symbol) → atom_symbols a ≡ inner ++ s ∷ []
    → prefix (unit_done above side (atom a)) ≡ (above_prefix above ++ (side_prefix side ++ inner)) ++ s ∷ []
atom_done above side inner a s e = prefix-unit_done above side (atom a) ∙ grown above side inner (atom_symbols a) s e

compared_prefix : (above : List Side) (side : Side) (sum : Sum) (r : Relation) (negative : Bool) (digits : List ℕ) (inner : List Symbol) (s : Symbol)
    → (sum_symbols sum ++ Compare r ∷ constant_symbols negative digits) ≡ inner ++ s ∷ []
    → prefix (trace_compared above side sum r negative digits) ≡ (above_prefix above ++ (side_prefix side ++ inner)) ++ s ∷ []
compared_prefix above side sum Less negative digits inner s e = atom_done above side inner (relational sum Less negative digits) s e
compared_prefix above side sum AtMost negative digits inner s e = atom_done above side inner (relational sum AtMost negative digits) s e
compared_prefix above side sum Greater negative digits inner s e = atom_done above side inner (relational sum Greater negative digits) s e
compared_prefix above side sum AtLeast negative digits inner s e = atom_done above side inner (relational sum AtLeast negative digits) s e
compared_prefix above side sum Equal negative digits inner s e =
    grown above side inner (sum_symbols sum ++ Compare Equal ∷ constant_symbols negative digits) s e
compared_prefix above side sum Unequal negative digits inner s e =
    grown above side inner (sum_symbols sum ++ Compare Unequal ∷ constant_symbols negative digits) s e

abbrev relation_prefix : Sum → Relation → Bool → List Symbol
relation_prefix sum r negative = sum_symbols sum ++ Compare r ∷ minus_if negative

number_follows : (above : List Side) (side : Side) (sum : Sum) (r : Relation) (negative : Bool) (s : Symbol)
    → Follows (trace_number above side sum r negative s) ((above_prefix above ++ (side_prefix side ++ relation_prefix sum r negative)) ++ s ∷ [])
number_follows above side sum r negative (Number digits) =
    compared_prefix above side sum r negative digits (relation_prefix sum r negative) (Number digits)
    (sym (append_assoc (sum_symbols sum) (Compare r ∷ minus_if negative) (Number digits ∷ [])))
number_follows above side sum r negative s = tt

constant_follows : (above : List Side) (side : Side) (sum : Sum) (r : Relation) (s : Symbol)
    → Follows (trace_constant above side sum r s) ((above_prefix above ++ (side_prefix side ++ (sum_symbols sum ++ Compare r ∷ []))) ++ s ∷ [])
constant_follows above side sum r Minus =
    grown above side (sum_symbols sum ++ Compare r ∷ []) (sum_symbols sum ++ Compare r ∷ Minus ∷ []) Minus (sym (append_assoc (sum_symbols sum) (Compare r ∷ []) (Minus ∷ [])))
constant_follows above side sum r s = number_follows above side sum r false s

abbrev equality_prefix : Sum → Bool → Bool → List ℕ → List Symbol
equality_prefix sum unequal negative digits = sum_symbols sum ++ Compare (equal_or_not unequal) ∷ constant_symbols negative digits

-- an atom without a modulus, as a conjunction
equality_conj_prefix : (above : List Side) (side : Side) (sum : Sum) (unequal negative : Bool) (digits : List ℕ)
    → above_prefix above ++ (ors_prefix side.ors ++ symbols (equality_conj side sum unequal negative digits)) ≡ above_prefix above ++ (side_prefix side ++ equality_prefix sum unequal negative digits)
equality_conj_prefix above side sum unequal negative digits = prefix-unit_done above side (atom (relational sum (equal_or_not unequal) negative digits))

equality_follows : (above : List Side) (side : Side) (sum : Sum) (unequal negative : Bool) (digits : List ℕ) (s : Symbol)
    → Follows (trace_sign above side.ors (equality_conj side sum unequal negative digits) s) ((above_prefix above ++ (side_prefix side ++ equality_prefix sum unequal negative digits)) ++ s ∷ [])
equality_follows above side sum unequal negative digits s =
    subst (λ (ss : List Symbol). Follows (trace_sign above side.ors (equality_conj side sum unequal negative digits) s) (ss ++ s ∷ []))
    (equality_conj_prefix above side sum unequal negative digits) (sign_follows above side.ors (equality_conj side sum unequal negative digits) s)

modulo_follows : (above : List Side) (side : Side) (sum : Sum) (unequal negative : Bool) (digits : List ℕ) (s : Symbol)
    → Follows (trace_modulo above side sum unequal negative digits s) ((above_prefix above ++ (side_prefix side ++ equality_prefix sum unequal negative digits)) ++ s ∷ [])
modulo_follows above side sum unequal negative digits Mod =
    grown above side (equality_prefix sum unequal negative digits) (inner_prefix (IModulus sum unequal negative digits)) Mod
    (sym (append_assoc (sum_symbols sum) (Compare (equal_or_not unequal) ∷ constant_symbols negative digits) (Mod ∷ [])))
modulo_follows above side sum unequal negative digits s = equality_follows above side sum unequal negative digits s

modulus_follows : (above : List Side) (side : Side) (sum : Sum) (unequal negative : Bool) (digits : List ℕ) (s : Symbol)
    → Follows (trace_modulus above side sum unequal negative digits s) ((above_prefix above ++ (side_prefix side ++ inner_prefix (IModulus sum unequal negative digits))) ++ s ∷ [])
modulus_follows above side sum unequal negative digits (Number modulus) =
    atom_done above side (inner_prefix (IModulus sum unequal negative digits)) (modular sum unequal negative digits modulus) (Number modulus) (simp append_assoc)
modulus_follows above side sum unequal negative digits s = tt

inner_follows : (above : List Side) (side : Side) (inner : Inner) (s : Symbol)
    → Follows (trace_inner above side inner s) ((above_prefix above ++ (side_prefix side ++ inner_prefix inner)) ++ s ∷ [])
inner_follows above side IUnit s = unit_follows above side s
inner_follows above side (ITerm lead) s = term_follows above side lead s
inner_follows above side (IStar lead digits) s = star_follows above side lead digits s
inner_follows above side (IName lead digits) s = name_follows above side lead digits s
inner_follows above side (IRelation sum) s = relation_follows above side sum s
inner_follows above side (IConstant sum r) s = constant_follows above side sum r s
inner_follows above side (INumber sum r) s = number_follows above side sum r true s
inner_follows above side (IModulo sum unequal negative digits) s = modulo_follows above side sum unequal negative digits s
inner_follows above side (IModulus sum unequal negative digits) s = modulus_follows above side sum unequal negative digits s

pub step_follows : (a : Trace) (s : Symbol) → Follows (trace_step a s) (prefix a ++ s ∷ [])
step_follows (Inside above side inner) s = inner_follows above side inner s
step_follows (Done above ors c) s = sign_follows above ors c s

-- ---- many symbols further, and the end

run_prefix : (b : Trace) (whole : List Symbol) (s : Symbol) (ss : List Symbol) (o : Option Trace)
    → ((c : Trace) → trace_run c ss ≡ Some b → prefix b ≡ prefix c ++ ss) → Follows o (whole ++ s ∷ []) → trace_goes_by o (λ c. trace_run c ss) ≡ Some b
    → prefix b ≡ whole ++ s ∷ ss
run_prefix b whole s ss None go h e = cc
run_prefix b whole s ss (Some c) go h e = go c e ∙ ap (λ w. w ++ ss) h ∙ append_assoc whole (s ∷ []) ss

pub prefix-run : (a b : Trace) (ss : List Symbol) → trace_run a ss ≡ Some b → prefix b ≡ prefix a ++ ss
prefix-run a b [] e = let same : a ≡ b = cc in ap prefix (sym same) ∙ sym (append-nil (prefix a))
prefix-run a b (s ∷ ss) e = run_prefix b (prefix a) s ss (trace_step a s) (λ c h. prefix-run c b ss h) (step_follows a s) e

Ends : Option (Phrase APred) → List Symbol → Type 0
Ends o whole = IfSome o (λ p. symbols p ≡ whole)

ended_prefix : (above : List Side) (ors : Option (Phrase APred)) (c : Phrase AConj) → Ends (trace_ended above ors c) (above_prefix above ++ (ors_prefix ors ++ symbols c))
unfolding Ends
ended_prefix [] ors c = symbols-with_ors ors c
ended_prefix (side ∷ above) ors c = tt

inner_end_prefix : (above : List Side) (side : Side) (inner : Inner) → Ends (trace_inner_end above side inner) (above_prefix above ++ (side_prefix side ++ inner_prefix inner))
unfolding Ends
inner_end_prefix above side IUnit = tt
inner_end_prefix above side (ITerm lead) = tt
inner_end_prefix above side (IStar lead digits) = tt
inner_end_prefix above side (IName lead digits) = tt
inner_end_prefix above side (IRelation sum) = tt
inner_end_prefix above side (IConstant sum r) = tt
inner_end_prefix above side (INumber sum r) = tt
inner_end_prefix above side (IModulo sum unequal negative digits) =
    subst (λ (ss : List Symbol). Ends (trace_ended above side.ors (equality_conj side sum unequal negative digits)) ss)
    (equality_conj_prefix above side sum unequal negative digits) (ended_prefix above side.ors (equality_conj side sum unequal negative digits))
inner_end_prefix above side (IModulus sum unequal negative digits) = tt

end_prefix : (a : Trace) → Ends (trace_end a) (prefix a)
end_prefix (Inside above side inner) = inner_end_prefix above side inner
end_prefix (Done above ors c) = ended_prefix above ors c

pub symbols-end : (a : Trace) (p : Phrase APred) → trace_end a ≡ Some p → symbols p ≡ prefix a
unfolding Ends
symbols-end a p e = let h = end_prefix a in (rw e at h)
