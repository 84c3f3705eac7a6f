-- Reading with names and limits, compared with the tree of productions.
use Rattle.std.proofs.Common.{◌≡◌, ℕ, zero, suc, Bool, true, false, List, [], ◌∷◌, ltb, Option, Some, None, IsSome, option_map, Result, Ok, Err, refl, sym, ap, subst, ◌∙◌, ℤ, pos, ◌+ℤ◌, nat_abs, position, slice_set, get_or, codes}
use Rattle.std.specs.Prelude.{if◌then◌else◌}
use Rattle.std.specs.Str.{bytes_eq}
use Rattle.pres_ast.specs.declared.limits.TheConstants.{COEFFICIENT_LIMIT, MODULUS_LIMIT}
use Rattle.pres_ast.specs.PredTree.{PredTree, Negation}
use Rattle.pres_tokens.specs.declared.token.Relation.{Relation}
use Rattle.pres_tokens.specs.declared.token.Relation.TheVariants.{Less, AtMost, Greater, AtLeast, Equal, Unequal}
use Rattle.pres_tokens.specs.Symbols.{Symbol, Name, Number, Plus, Minus, Star, Compare, And, Or, Not, Open, Close, Mod, Placed}
use Rattle.pres_read.specs.declared.fault.ReadPred.{ReadPred}
use Rattle.pres_read.specs.declared.fault.ReadPred.TheVariants.{Syntax, UnknownName, TooLarge, TooDeep, LongText}
use Rattle.pres_read.specs.Numbers.{value_of_digits, value_within}
use Rattle.pres_read.specs.Atoms.{signed_number, negation_if, equality_tree, compared_tree, congruent_tree, limit_of, Factor, with_coef_at, with_number, with_term, added}
use Rattle.pres_read.specs.Progress.{Span, Around, Next, AUnit, ATerm, AStar, AName, ARelation, AConstant, ANumber, AModulo, AModulus, ASign, Progress, start}
use Rattle.pres_read.specs.Reading.{negation, conjunction, disjunction, progress_after_unit, going_on, after_sum, term_step, unit_step, star_step, name_step, relation_step, progress_after_constant, given_constant, number_step, constant_step, given_modulus, modulus_step, close_step, sign_step, tree_up_to_unit, equality_step, modulo_step, by_next, step, end_step, finish_by, finish}
use Rattle.pres_read.specs.Atoms.{zero_coefs}
use Rattle.pres_read.specs.Grammar.{Term, bare, times, Sum, relational, modular, APred, AConj, AUnit, Phrase, group, atom, equal_or_not, raised, coefs_of, meaning}
use Rattle.pres_read.proofs.Traces.{Lead, begin, after, sum_with, Inner, IUnit, ITerm, IStar, IName, IRelation, IConstant, INumber, IModulo, IModulus, Side, Trace, Inside, Done, begun, negates, with_ands, with_ors, conj_of, unit_done, trace_closed, trace_sign, trace_term, trace_unit, trace_star, trace_name, trace_relation, trace_compared, trace_number, trace_constant, equality_conj, trace_modulo, trace_modulus, trace_inner, trace_step, trace_ended, trace_inner_end, trace_end}

abbrev pub side_span : List (List ℕ) → Side → Span
side_span names side = record { ors = option_map (meaning names) side.ors; ands = option_map (meaning names) side.ands; nots = side.nots }

abbrev pub side_spans : List (List ℕ) → List Side → List Span
side_spans names [] = []
side_spans names (side ∷ above) = side_span names side ∷ side_spans names above

abbrev pub around_side : List (List ℕ) → List Side → Side → Around
around_side names above side = record { above = side_spans names above; span = side_span names side }

abbrev pub lead_coefs : List (List ℕ) → Lead → List ℤ
lead_coefs names (begin negative) = zero_coefs names
lead_coefs names (after sum negative) = coefs_of names sum

abbrev pub lead_negative : Lead → Bool
lead_negative (begin negative) = negative
lead_negative (after sum negative) = negative

abbrev pub lead_factor : Lead → List ℕ → ℕ → Factor
lead_factor lead digits place = record { negative = lead_negative lead; digits = digits; place = place }

-- what comes next, if a term was begun at this place
abbrev pub inner_next : List (List ℕ) → ℕ → Inner → Next
inner_next names place IUnit = AUnit
inner_next names place (ITerm lead) = ATerm (lead_coefs names lead) (lead_negative lead)
inner_next names place (IStar lead digits) = AStar (lead_coefs names lead) (lead_factor lead digits place)
inner_next names place (IName lead digits) = AName (lead_coefs names lead) (lead_factor lead digits place)
inner_next names place (IRelation sum) = ARelation (coefs_of names sum)
inner_next names place (IConstant sum r) = AConstant (coefs_of names sum) r
inner_next names place (INumber sum r) = ANumber (coefs_of names sum) r
inner_next names place (IModulo sum unequal negative digits) = AModulo (coefs_of names sum) unequal (signed_number negative (value_of_digits digits))
inner_next names place (IModulus sum unequal negative digits) = AModulus (coefs_of names sum) unequal (signed_number negative (value_of_digits digits))

abbrev pub shown : List (List ℕ) → ℕ → Trace → Progress
shown names place (Inside above side inner) = record { around = around_side names above side; next = inner_next names place inner }
shown names place (Done above ors c) = record {
  around = record { above = side_spans names above; span = record { ors = option_map (meaning names) ors; ands = None; nots = 0 } };
  next = ASign (meaning names c);
}

abbrev pub IsShown : List (List ℕ) → Progress → Trace → Type 0
IsShown names p a = (place : ℕ) × (p ≡ shown names place a)

-- a fault is of syntax exactly when the trace can't go on
abbrev pub FaultAt : {A : Type 0} → ReadPred → Option A → ℕ → Type 0
FaultAt (Syntax at) o place = (o ≡ None) × (at ≡ place)
FaultAt (UnknownName at) o place = IsSome o
FaultAt (TooLarge at) o place = IsSome o
FaultAt (TooDeep at) o place = IsSome o
FaultAt (LongText n) o place = ⊥

abbrev pub Agrees : List (List ℕ) → Result Progress ReadPred → Option Trace → ℕ → Type 0
Agrees names (Ok q) None place = ⊥
Agrees names (Ok q) (Some b) place = IsShown names q b
Agrees names (Err e) o place = FaultAt e o place

-- ---- meanings of composed phrases

meaning-negates : (names : List (List ℕ)) (k : ℕ) (u : Phrase AUnit) → meaning names (negates k u) ≡ negation k (meaning names u)
meaning-negates names zero u = refl
meaning-negates names (suc k) u = ap Negation (meaning-negates names k u)

meaning-with_ands : (names : List (List ℕ)) (o : Option (Phrase AConj)) (u : Phrase AUnit) → meaning names (with_ands o u) ≡ conjunction (option_map (meaning names) o) (meaning names u)
meaning-with_ands names None u = refl
meaning-with_ands names (Some c) u = refl

meaning-with_ors : (names : List (List ℕ)) (o : Option (Phrase APred)) (c : Phrase AConj) → meaning names (with_ors o c) ≡ disjunction (option_map (meaning names) o) (meaning names c)
meaning-with_ors names None c = refl
meaning-with_ors names (Some p) c = refl

meaning-conj_of : (names : List (List ℕ)) (side : Side) (u : Phrase AUnit) → meaning names (conj_of side u) ≡ tree_up_to_unit (side_span names side) (meaning names u)
meaning-conj_of names side u =
    meaning-with_ands names side.ands (negates side.nots u) ∙ ap (conjunction (option_map (meaning names) side.ands)) (meaning-negates names side.nots u)

unit_shown : (names : List (List ℕ)) (above : List Side) (side : Side) (u : Phrase AUnit) (p : PredTree) → meaning names u ≡ p
    → IsShown names (progress_after_unit (around_side names above side) p) (unit_done above side u)
unit_shown names above side u p e = (
  0,
  ap (λ c. record { around = record { above = side_spans names above; span = record { ors = option_map (meaning names) side.ors; ands = None; nots = 0 } }; next = ASign c })
      (ap (tree_up_to_unit (side_span names side)) (sym e) ∙ sym (meaning-conj_of names side u)),
)

-- ---- the coefficients of a sum

abbrev IsAdded : Result (List ℤ) ReadPred → List ℤ → Type 0
IsAdded (Ok s) x = s ≡ x
IsAdded (Err e) x = FaultAt e (Some x) 0

coef_added : (coefs : List ℤ) (i : ℕ) (z : ℤ) (place : ℕ) → IsAdded (with_coef_at coefs i z place) (slice_set coefs i z)
coef_added coefs i z place = by_test (ltb COEFFICIENT_LIMIT (nat_abs z))
  where
    by_test : (b : Bool) → IsAdded (if b then Err (TooLarge place) else Ok (slice_set coefs i z)) (slice_set coefs i z)
    by_test true = refl
    by_test false = refl

number_added : (coefs : List ℤ) (i : ℕ) (factor : Factor) (limit v : ℕ)
    → IsAdded (with_number coefs i factor (value_within limit v)) (slice_set coefs i (get_or coefs i (pos 0) +ℤ signed_number factor.negative v))
number_added coefs i factor limit v = by_test (ltb limit v)
  where
    by_test : (b : Bool) → IsAdded (with_number coefs i factor (if b then None else Some v)) (slice_set coefs i (get_or coefs i (pos 0) +ℤ signed_number factor.negative v))
    by_test true = refl
    by_test false = coef_added coefs i (get_or coefs i (pos 0) +ℤ signed_number factor.negative v) factor.place

term_added : (coefs : List ℤ) (o : Option ℕ) (factor : Factor) (place : ℕ)
    → IsAdded (with_term coefs o factor place) (raised coefs o (signed_number factor.negative (value_of_digits factor.digits)))
term_added coefs None factor place = refl
term_added coefs (Some i) factor place = number_added coefs i factor COEFFICIENT_LIMIT (value_of_digits factor.digits)

sum_agrees : (names : List (List ℕ)) (above : List Side) (side : Side) (place : ℕ) (r : Result (List ℤ) ReadPred) (x : List ℤ) (sum : Sum)
    → coefs_of names sum ≡ x → IsAdded r x → Agrees names (after_sum (around_side names above side) r) (Some (Inside above side (IRelation sum))) place
sum_agrees names above side place (Ok s) x sum e h = (0, ap (λ coefs. going_on (around_side names above side) (ARelation coefs)) (h ∙ sym e))
sum_agrees names above side place (Err (Syntax at)) x sum e h = let no = h.0 in cc
sum_agrees names above side place (Err (UnknownName at)) x sum e h = refl
sum_agrees names above side place (Err (TooLarge at)) x sum e h = refl
sum_agrees names above side place (Err (TooDeep at)) x sum e h = refl
sum_agrees names above side place (Err (LongText at)) x sum e h = absurd h

added_agrees : (names : List (List ℕ)) (above : List Side) (side : Side) (place at : ℕ) (lead : Lead) (digits word : List ℕ) (term : Term)
    → coefs_of names (sum_with lead term) ≡ raised (lead_coefs names lead) (position (bytes_eq word) names) (signed_number (lead_negative lead) (value_of_digits digits))
    → Agrees names (after_sum (around_side names above side) (added names (lead_coefs names lead) (lead_factor lead digits at) place word)) (Some (Inside above side (IRelation (sum_with lead term)))) place
added_agrees names above side place at lead digits word term e =
    sum_agrees names above side place (added names (lead_coefs names lead) (lead_factor lead digits at) place word)
    (raised (lead_coefs names lead) (position (bytes_eq word) names) (signed_number (lead_negative lead) (value_of_digits digits))) (sum_with lead term) e
    (term_added (lead_coefs names lead) (position (bytes_eq word) names) (lead_factor lead digits at) place)

coefs-bare : (names : List (List ℕ)) (lead : Lead) (word : List ℕ)
    → coefs_of names (sum_with lead (bare word)) ≡ raised (lead_coefs names lead) (position (bytes_eq word) names) (signed_number (lead_negative lead) (value_of_digits (codes "1")))
coefs-bare names (begin negative) word = refl
coefs-bare names (after sum negative) word = refl

coefs-times : (names : List (List ℕ)) (lead : Lead) (digits word : List ℕ)
    → coefs_of names (sum_with lead (times digits word)) ≡ raised (lead_coefs names lead) (position (bytes_eq word) names) (signed_number (lead_negative lead) (value_of_digits digits))
coefs-times names (begin negative) digits word = refl
coefs-times names (after sum negative) digits word = refl

-- ---- one symbol further

term_agrees : (names : List (List ℕ)) (above : List Side) (side : Side) (lead : Lead) (place : ℕ) (s : Symbol)
    → Agrees names (term_step names (around_side names above side) (lead_coefs names lead) (lead_negative lead) place s) (trace_term above side lead s) place
term_agrees names above side lead place (Name word) = added_agrees names above side place place lead (codes "1") word (bare word) (coefs-bare names lead word)
term_agrees names above side lead place (Number digits) = (place, refl)
term_agrees names above side lead place s = (refl, refl)

unit_agrees : (names : List (List ℕ)) (above : List Side) (side : Side) (place : ℕ) (s : Symbol)
    → Agrees names (unit_step names (around_side names above side) place s) (trace_unit above side s) place
unit_agrees names above side place Not = (place, refl)
unit_agrees names above side place Open = (place, refl)
unit_agrees names above side place Minus = (place, refl)
unit_agrees names above side place s = term_agrees names above side (begin false) place s

star_agrees : (names : List (List ℕ)) (above : List Side) (side : Side) (lead : Lead) (digits : List ℕ) (at place : ℕ) (s : Symbol)
    → Agrees names (star_step (around_side names above side) (lead_coefs names lead) (lead_factor lead digits at) place s) (trace_star above side lead digits s) place
star_agrees names above side lead digits at place Star = (at, refl)
star_agrees names above side lead digits at place s = (refl, refl)

name_agrees : (names : List (List ℕ)) (above : List Side) (side : Side) (lead : Lead) (digits : List ℕ) (at place : ℕ) (s : Symbol)
    → Agrees names (name_step names (around_side names above side) (lead_coefs names lead) (lead_factor lead digits at) place s) (trace_name above side lead digits s) place
name_agrees names above side lead digits at place (Name word) = added_agrees names above side place at lead digits word (times digits word) (coefs-times names lead digits word)
name_agrees names above side lead digits at place s = (refl, refl)

relation_agrees : (names : List (List ℕ)) (above : List Side) (side : Side) (sum : Sum) (place : ℕ) (s : Symbol)
    → Agrees names (relation_step (around_side names above side) (coefs_of names sum) place s) (trace_relation above side sum s) place
relation_agrees names above side sum place Plus = (place, refl)
relation_agrees names above side sum place Minus = (place, refl)
relation_agrees names above side sum place (Compare r) = (place, refl)
relation_agrees names above side sum place s = (refl, refl)

compared_shown : (names : List (List ℕ)) (above : List Side) (side : Side) (sum : Sum) (r : Relation) (negative : Bool) (digits : List ℕ)
    → IsShown names (progress_after_constant (around_side names above side) (coefs_of names sum) r (signed_number negative (value_of_digits digits))) (trace_compared above side sum r negative digits)
compared_shown names above side sum Less negative digits = unit_shown names above side (atom (relational sum Less negative digits)) (compared_tree (coefs_of names sum) Less (signed_number negative (value_of_digits digits))) refl
compared_shown names above side sum AtMost negative digits = unit_shown names above side (atom (relational sum AtMost negative digits)) (compared_tree (coefs_of names sum) AtMost (signed_number negative (value_of_digits digits))) refl
compared_shown names above side sum Greater negative digits = unit_shown names above side (atom (relational sum Greater negative digits)) (compared_tree (coefs_of names sum) Greater (signed_number negative (value_of_digits digits))) refl
compared_shown names above side sum AtLeast negative digits = unit_shown names above side (atom (relational sum AtLeast negative digits)) (compared_tree (coefs_of names sum) AtLeast (signed_number negative (value_of_digits digits))) refl
compared_shown names above side sum Equal negative digits = (0, refl)
compared_shown names above side sum Unequal negative digits = (0, refl)

constant_within : (names : List (List ℕ)) (above : List Side) (side : Side) (sum : Sum) (r : Relation) (negative : Bool) (digits : List ℕ) (place limit : ℕ)
    → Agrees names (given_constant (around_side names above side) (coefs_of names sum) r negative place (value_within limit (value_of_digits digits))) (Some (trace_compared above side sum r negative digits)) place
constant_within names above side sum r negative digits place limit = by_test (ltb limit (value_of_digits digits))
  where
    by_test : (b : Bool) → Agrees names (given_constant (around_side names above side) (coefs_of names sum) r negative place (if b then None else Some (value_of_digits digits))) (Some (trace_compared above side sum r negative digits)) place
    by_test true = refl
    by_test false = compared_shown names above side sum r negative digits

number_agrees : (names : List (List ℕ)) (above : List Side) (side : Side) (sum : Sum) (r : Relation) (negative : Bool) (place : ℕ) (s : Symbol)
    → Agrees names (number_step (around_side names above side) (coefs_of names sum) r negative place s) (trace_number above side sum r negative s) place
number_agrees names above side sum r negative place (Number digits) = constant_within names above side sum r negative digits place (limit_of r)
number_agrees names above side sum r negative place s = (refl, refl)

constant_agrees : (names : List (List ℕ)) (above : List Side) (side : Side) (sum : Sum) (r : Relation) (place : ℕ) (s : Symbol)
    → Agrees names (constant_step (around_side names above side) (coefs_of names sum) r place s) (trace_constant above side sum r s) place
constant_agrees names above side sum r place Minus = (place, refl)
constant_agrees names above side sum r place s = number_agrees names above side sum r false place s

closed_agrees : (names : List (List ℕ)) (above : List Side) (p : Phrase APred) (q : PredTree) (place : ℕ) → meaning names p ≡ q
    → Agrees names (close_step (side_spans names above) q place) (trace_closed above p) place
closed_agrees names [] p q place e = (refl, refl)
closed_agrees names (side ∷ above) p q place e = unit_shown names above side (group p) q e

sign_agrees : (names : List (List ℕ)) (above : List Side) (ors : Option (Phrase APred)) (c : Phrase AConj) (place : ℕ) (s : Symbol)
    → Agrees names (sign_step (side_spans names above) (option_map (meaning names) ors) (meaning names c) place s) (trace_sign above ors c s) place
sign_agrees names above ors c place And = (place, refl)
sign_agrees names above ors c place Or =
    (place, ap (λ p. going_on (record { above = side_spans names above; span = record { ors = Some p; ands = None; nots = 0 } }) AUnit) (sym (meaning-with_ors names ors c)))
sign_agrees names above ors c place Close =
    closed_agrees names above (with_ors ors c) (disjunction (option_map (meaning names) ors) (meaning names c)) place (meaning-with_ors names ors c)
sign_agrees names above ors c place s = (refl, refl)

meaning-equality : (names : List (List ℕ)) (sum : Sum) (unequal negative : Bool) (digits : List ℕ)
    → meaning names (atom (relational sum (equal_or_not unequal) negative digits)) ≡ negation_if unequal (equality_tree (coefs_of names sum) (signed_number negative (value_of_digits digits)))
meaning-equality names sum false negative digits = refl
meaning-equality names sum true negative digits = refl

meaning-equality_conj : (names : List (List ℕ)) (side : Side) (sum : Sum) (unequal negative : Bool) (digits : List ℕ)
    → meaning names (equality_conj side sum unequal negative digits) ≡ tree_up_to_unit (side_span names side) (negation_if unequal (equality_tree (coefs_of names sum) (signed_number negative (value_of_digits digits))))
meaning-equality_conj names side sum unequal negative digits =
    meaning-conj_of names side (atom (relational sum (equal_or_not unequal) negative digits)) ∙ ap (tree_up_to_unit (side_span names side)) (meaning-equality names sum unequal negative digits)

equality_agrees : (names : List (List ℕ)) (above : List Side) (side : Side) (sum : Sum) (unequal negative : Bool) (digits : List ℕ) (place : ℕ) (s : Symbol)
    → Agrees names (equality_step (around_side names above side) (coefs_of names sum) unequal (signed_number negative (value_of_digits digits)) place s) (trace_sign above side.ors (equality_conj side sum unequal negative digits) s) place
equality_agrees names above side sum unequal negative digits place s =
    subst (λ (p : PredTree). Agrees names (sign_step (side_spans names above) (option_map (meaning names) side.ors) p place s) (trace_sign above side.ors (equality_conj side sum unequal negative digits) s) place)
    (meaning-equality_conj names side sum unequal negative digits) (sign_agrees names above side.ors (equality_conj side sum unequal negative digits) place s)

modulo_agrees : (names : List (List ℕ)) (above : List Side) (side : Side) (sum : Sum) (unequal negative : Bool) (digits : List ℕ) (place : ℕ) (s : Symbol)
    → Agrees names (modulo_step (around_side names above side) (coefs_of names sum) unequal (signed_number negative (value_of_digits digits)) place s) (trace_modulo above side sum unequal negative digits s) place
modulo_agrees names above side sum unequal negative digits place Mod = (place, refl)
modulo_agrees names above side sum unequal negative digits place s = equality_agrees names above side sum unequal negative digits place s

modulus_within : (names : List (List ℕ)) (above : List Side) (side : Side) (sum : Sum) (unequal negative : Bool) (digits modulus : List ℕ) (place : ℕ)
    → Agrees names (given_modulus (around_side names above side) (coefs_of names sum) unequal (signed_number negative (value_of_digits digits)) place (value_within MODULUS_LIMIT (value_of_digits modulus)))
    (Some (unit_done above side (atom (modular sum unequal negative digits modulus)))) place
modulus_within names above side sum unequal negative digits modulus place = by_test (ltb MODULUS_LIMIT (value_of_digits modulus))
  where
    least : (b : Bool) → Agrees names (if b then Err (TooLarge place) else Ok (progress_after_unit (around_side names above side) (congruent_tree (coefs_of names sum) unequal (signed_number negative (value_of_digits digits)) (value_of_digits modulus)))) (Some (unit_done above side (atom (modular sum unequal negative digits modulus)))) place
    least true = refl
    least false = unit_shown names above side (atom (modular sum unequal negative digits modulus)) (congruent_tree (coefs_of names sum) unequal (signed_number negative (value_of_digits digits)) (value_of_digits modulus)) refl

    by_test : (b : Bool) → Agrees names (given_modulus (around_side names above side) (coefs_of names sum) unequal (signed_number negative (value_of_digits digits)) place (if b then None else Some (value_of_digits modulus))) (Some (unit_done above side (atom (modular sum unequal negative digits modulus)))) place
    by_test true = refl
    by_test false = least (ltb (value_of_digits modulus) 2)

modulus_agrees : (names : List (List ℕ)) (above : List Side) (side : Side) (sum : Sum) (unequal negative : Bool) (digits : List ℕ) (place : ℕ) (s : Symbol)
    → Agrees names (modulus_step (around_side names above side) (coefs_of names sum) unequal (signed_number negative (value_of_digits digits)) place s) (trace_modulus above side sum unequal negative digits s) place
modulus_agrees names above side sum unequal negative digits place (Number modulus) = modulus_within names above side sum unequal negative digits modulus place
modulus_agrees names above side sum unequal negative digits place s = (refl, refl)

inner_agrees : (names : List (List ℕ)) (above : List Side) (side : Side) (inner : Inner) (at place : ℕ) (s : Symbol)
    → Agrees names (by_next names (around_side names above side) (inner_next names at inner) place s) (trace_inner above side inner s) place
inner_agrees names above side IUnit at place s = unit_agrees names above side place s
inner_agrees names above side (ITerm lead) at place s = term_agrees names above side lead place s
inner_agrees names above side (IStar lead digits) at place s = star_agrees names above side lead digits at place s
inner_agrees names above side (IName lead digits) at place s = name_agrees names above side lead digits at place s
inner_agrees names above side (IRelation sum) at place s = relation_agrees names above side sum place s
inner_agrees names above side (IConstant sum r) at place s = constant_agrees names above side sum r place s
inner_agrees names above side (INumber sum r) at place s = number_agrees names above side sum r true place s
inner_agrees names above side (IModulo sum unequal negative digits) at place s = modulo_agrees names above side sum unequal negative digits place s
inner_agrees names above side (IModulus sum unequal negative digits) at place s = modulus_agrees names above side sum unequal negative digits place s

shown_agrees : (names : List (List ℕ)) (a : Trace) (at : ℕ) (t : Placed) → Agrees names (step names (shown names at a) t) (trace_step a t.symbol) t.place
unfolding step
shown_agrees names (Inside above side inner) at t = inner_agrees names above side inner at t.place t.symbol
shown_agrees names (Done above ors c) at t = sign_agrees names above ors c t.place t.symbol

pub step_agrees : (names : List (List ℕ)) (p : Progress) (a : Trace) (t : Placed) → IsShown names p a → Agrees names (step names p t) (trace_step a t.symbol) t.place
step_agrees names p a t h =
    subst (λ (q : Progress). Agrees names (step names q t) (trace_step a t.symbol) t.place) (sym h.1) (shown_agrees names a h.0 t)

-- ---- the end

abbrev pub EndAgrees : List (List ℕ) → Result PredTree ReadPred → Option (Phrase APred) → ℕ → Type 0
EndAgrees names (Ok q) None place = ⊥
EndAgrees names (Ok q) (Some p) place = meaning names p ≡ q
EndAgrees names (Err e) o place = FaultAt e o place

ended_agrees : (names : List (List ℕ)) (above : List Side) (ors : Option (Phrase APred)) (c : Phrase AConj) (end : ℕ)
    → EndAgrees names (end_step (side_spans names above) (option_map (meaning names) ors) (meaning names c) end) (trace_ended above ors c) end
ended_agrees names [] ors c end = meaning-with_ors names ors c
ended_agrees names (side ∷ above) ors c end = (refl, refl)

inner_end_agrees : (names : List (List ℕ)) (above : List Side) (side : Side) (inner : Inner) (at end : ℕ)
    → EndAgrees names (finish_by (around_side names above side) (inner_next names at inner) end) (trace_inner_end above side inner) end
inner_end_agrees names above side IUnit at end = (refl, refl)
inner_end_agrees names above side (ITerm lead) at end = (refl, refl)
inner_end_agrees names above side (IStar lead digits) at end = (refl, refl)
inner_end_agrees names above side (IName lead digits) at end = (refl, refl)
inner_end_agrees names above side (IRelation sum) at end = (refl, refl)
inner_end_agrees names above side (IConstant sum r) at end = (refl, refl)
inner_end_agrees names above side (INumber sum r) at end = (refl, refl)
inner_end_agrees names above side (IModulo sum unequal negative digits) at end =
    subst (λ (p : PredTree). EndAgrees names (end_step (side_spans names above) (option_map (meaning names) side.ors) p end) (trace_ended above side.ors (equality_conj side sum unequal negative digits)) end)
    (meaning-equality_conj names side sum unequal negative digits) (ended_agrees names above side.ors (equality_conj side sum unequal negative digits) end)
inner_end_agrees names above side (IModulus sum unequal negative digits) at end = (refl, refl)

shown_end_agrees : (names : List (List ℕ)) (a : Trace) (at end : ℕ) → EndAgrees names (finish (shown names at a) end) (trace_end a) end
unfolding finish
shown_end_agrees names (Inside above side inner) at end = inner_end_agrees names above side inner at end
shown_end_agrees names (Done above ors c) at end = ended_agrees names above ors c end

pub finish_agrees : (names : List (List ℕ)) (p : Progress) (a : Trace) (end : ℕ) → IsShown names p a → EndAgrees names (finish p end) (trace_end a) end
finish_agrees names p a end h =
    subst (λ (q : Progress). EndAgrees names (finish q end) (trace_end a) end) (sym h.1) (shown_end_agrees names a h.0 end)

pub start_shown : (names : List (List ℕ)) → IsShown names start begun
start_shown names = (0, refl)
