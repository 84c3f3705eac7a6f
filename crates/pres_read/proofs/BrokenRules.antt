-- What a step says about the rules: if it goes on they are kept, and each fault is that of a broken one.
use Rattle.std.proofs.Common.{◌≡◌, ◌≤◌, ℕ, Bool, true, false, List, [], ◌∷◌, ◌++◌, ltb, Option, Some, None, IsSome, Result, Ok, Err, IfOk, option_map, refl, sym, ap, subst, ◌∙◌, append_assoc, arith, ℤ, pos, ◌+ℤ◌, nat_abs, position, get_or, slice_set}
use Rattle.std.specs.Prelude.{if◌then◌else◌}
use Rattle.std.specs.Str.{bytes_eq}
use Rattle.std.proofs.lemmas.Bool.{ltb-true, ltb-false}
use Rattle.pres_ast.specs.declared.limits.TheConstants.{COEFFICIENT_LIMIT, MODULUS_LIMIT}
use Rattle.pres_ast.specs.PredTree.{PredTree}
use Rattle.pres_tokens.specs.declared.token.Relation.{Relation}
use Rattle.pres_tokens.specs.declared.token.Relation.TheVariants.{Less, AtMost, Greater, AtLeast, Equal, Unequal}
use Rattle.pres_tokens.specs.Symbols.{Symbol, Name, Number, Plus, Minus, Star, Compare, And, Or, Not, Open, Close, Mod, Placed}
use Rattle.pres_read.specs.declared.fault.ReadPred.{ReadPred}
use Rattle.pres_read.specs.declared.fault.ReadPred.TheVariants.{Syntax, UnknownName, TooLarge, TooDeep, LongText}
use Rattle.pres_read.specs.Numbers.{value_of_digits, value_within}
use Rattle.pres_read.specs.Atoms.{signed_number, negation_if, equality_tree, congruent_tree, limit_of, Factor, lone, with_coef_at, with_number, with_term, added}
use Rattle.pres_read.specs.Progress.{Span, Around, Next, AUnit, ATerm, AStar, AName, ARelation, AConstant, ANumber, AModulo, AModulus, ASign, Progress}
use Rattle.pres_read.specs.Reading.{progress_after_unit, after_sum, term_step, unit_step, star_step, name_step, relation_step, progress_after_constant, given_constant, number_step, constant_step, given_modulus, modulus_step, close_step, sign_step, tree_up_to_unit, disjunction, modulo_step, by_next, step}
use Rattle.pres_read.specs.Atoms.{zero_coefs}
use Rattle.pres_read.specs.Grammar.{coefs_of, meaning}
use Rattle.pres_read.specs.Rules.{CoefFits, IsKnown}
use Rattle.pres_read.proofs.Traces.{Lead, begin, IUnit, ITerm, IStar, IName, IRelation, IConstant, INumber, IModulo, IModulus, Trace, Inside, Done}
use Rattle.pres_read.proofs.Shows.{side_spans, around_side, lead_coefs, lead_negative, lead_factor, shown}
use Rattle.pres_read.proofs.Kept.{RuleUnit, RuleConstant, RuleModulus, RuleInner, RuleAt}

-- what goes on keeps the rule; a fault is that the name is unknown, or that the rule is broken
abbrev pub Says : {X : Type 0} → (rule known : Type 0) (place first : ℕ) → Result X ReadPred → Type 0
Says rule known place first (Ok x) = rule
Says rule known place first (Err (UnknownName at)) = (known → ⊥) × (place ≡ at)
Says rule known place first (Err (TooLarge at)) = known × (rule → ⊥) × (first ≡ at)
Says rule known place first (Err (TooDeep at)) = ⊥
Says rule known place first (Err e) = Unit {0}

abbrev CoefRule : List ℤ → Option ℕ → Factor → Type 0
CoefRule coefs o factor = (value_of_digits factor.digits ≤ COEFFICIENT_LIMIT) × CoefFits coefs o (signed_number factor.negative (value_of_digits factor.digits))

coef_says : (coefs : List ℤ) (i : ℕ) (factor : Factor) (place : ℕ) → value_of_digits factor.digits ≤ COEFFICIENT_LIMIT
    → Says (CoefRule coefs (Some i) factor) (IsSome (Some i)) place factor.place (with_coef_at coefs i (get_or coefs i (pos 0) +ℤ signed_number factor.negative (value_of_digits factor.digits)) factor.place)
coef_says coefs i factor place small = by_test (ltb COEFFICIENT_LIMIT (nat_abs (get_or coefs i (pos 0) +ℤ signed_number factor.negative (value_of_digits factor.digits)))) refl
  where
    by_test : (b : Bool) → ltb COEFFICIENT_LIMIT (nat_abs (get_or coefs i (pos 0) +ℤ signed_number factor.negative (value_of_digits factor.digits))) ≡ b
        → Says (CoefRule coefs (Some i) factor) (IsSome (Some i)) place factor.place (if b then Err (TooLarge factor.place) else Ok (slice_set coefs i (get_or coefs i (pos 0) +ℤ signed_number factor.negative (value_of_digits factor.digits))))
    by_test true e = let past = ltb-true COEFFICIENT_LIMIT (nat_abs (get_or coefs i (pos 0) +ℤ signed_number factor.negative (value_of_digits factor.digits))) e in (refl, (λ h. let most = h.1 in absurd (omega (arith, past, most))), refl)
    by_test false e = (small, ltb-false COEFFICIENT_LIMIT (nat_abs (get_or coefs i (pos 0) +ℤ signed_number factor.negative (value_of_digits factor.digits))) e)

term_says : (coefs : List ℤ) (o : Option ℕ) (factor : Factor) (place : ℕ) → Says (CoefRule coefs o factor) (IsSome o) place factor.place (with_term coefs o factor place)
term_says coefs None factor place = (λ h. cc, refl)
term_says coefs (Some i) factor place = by_test (ltb COEFFICIENT_LIMIT (value_of_digits factor.digits)) refl
  where
    by_test : (b : Bool) → ltb COEFFICIENT_LIMIT (value_of_digits factor.digits) ≡ b
        → Says (CoefRule coefs (Some i) factor) (IsSome (Some i)) place factor.place (with_number coefs i factor (if b then None else Some (value_of_digits factor.digits)))
    by_test true e = let past = ltb-true COEFFICIENT_LIMIT (value_of_digits factor.digits) e in (refl, (λ h. let most = h.0 in absurd (omega (arith, past, most))), refl)
    by_test false e = coef_says coefs i factor place (ltb-false COEFFICIENT_LIMIT (value_of_digits factor.digits) e)

sum_says : (a : Around) (rule known : Type 0) (place first : ℕ) (r : Result (List ℤ) ReadPred) → Says rule known place first r → Says rule known place first (after_sum a r)
sum_says a rule known place first (Ok coefs) h = h
sum_says a rule known place first (Err (Syntax at)) h = tt
sum_says a rule known place first (Err (UnknownName at)) h = h
sum_says a rule known place first (Err (TooLarge at)) h = h
sum_says a rule known place first (Err (TooDeep at)) h = h
sum_says a rule known place first (Err (LongText n)) h = tt

-- a step without a rule of its own has no such fault
abbrev Plain : {X : Type 0} → Result X ReadPred → Type 0
Plain (Ok x) = Unit {0}
Plain (Err (UnknownName at)) = ⊥
Plain (Err (TooLarge at)) = ⊥
Plain (Err (TooDeep at)) = ⊥
Plain (Err e) = Unit {0}

plain_says : {X : Type 0} (known : Type 0) (place first : ℕ) (r : Result X ReadPred) → Plain r → Says (Unit {0}) known place first r
plain_says known place first (Ok x) h = tt
plain_says known place first (Err (Syntax at)) h = tt
plain_says known place first (Err (UnknownName at)) h = absurd h
plain_says known place first (Err (TooLarge at)) h = absurd h
plain_says known place first (Err (TooDeep at)) h = h
plain_says known place first (Err (LongText n)) h = tt

lead_says : (names : List (List ℕ)) (a : Around) (lead : Lead) (place : ℕ) (s : Symbol) → Says (RuleUnit names lead s) (IsKnown names s) place place (term_step names a (lead_coefs names lead) (lead_negative lead) place s)
lead_says names a lead place (Name word) =
    sum_says a (RuleUnit names lead (Name word)) (IsKnown names (Name word)) place place (added names (lead_coefs names lead) (lone (lead_negative lead) place) place word)
    (term_says (lead_coefs names lead) (position (bytes_eq word) names) (lone (lead_negative lead) place) place)
lead_says names a lead place s = tt

unit_says : (names : List (List ℕ)) (a : Around) (place : ℕ) (s : Symbol) → Says (RuleUnit names (begin false) s) (IsKnown names s) place place (unit_step names a place s)
unit_says names a place Not = tt
unit_says names a place Open = tt
unit_says names a place Minus = tt
unit_says names a place s = lead_says names a (begin false) place s

star_plain : (a : Around) (coefs : List ℤ) (factor : Factor) (place : ℕ) (s : Symbol) → Plain (star_step a coefs factor place s)
star_plain a coefs factor place Star = tt
star_plain a coefs factor place s = tt

name_says : (names : List (List ℕ)) (a : Around) (lead : Lead) (digits : List ℕ) (first place : ℕ) (s : Symbol)
    → Says (RuleInner names (IName lead digits) s) (IsKnown names s) place first (name_step names a (lead_coefs names lead) (lead_factor lead digits first) place s)
name_says names a lead digits first place (Name word) =
    sum_says a (RuleInner names (IName lead digits) (Name word)) (IsKnown names (Name word)) place first (added names (lead_coefs names lead) (lead_factor lead digits first) place word)
    (term_says (lead_coefs names lead) (position (bytes_eq word) names) (lead_factor lead digits first) place)
name_says names a lead digits first place s = tt

relation_plain : (a : Around) (coefs : List ℤ) (place : ℕ) (s : Symbol) → Plain (relation_step a coefs place s)
relation_plain a coefs place Plus = tt
relation_plain a coefs place Minus = tt
relation_plain a coefs place (Compare r) = tt
relation_plain a coefs place s = tt

number_says : (names : List (List ℕ)) (a : Around) (coefs : List ℤ) (r : Relation) (negative : Bool) (place : ℕ) (s : Symbol)
    → Says (RuleConstant r s) (IsKnown names s) place place (number_step a coefs r negative place s)
number_says names a coefs r negative place (Number digits) = by_test (ltb (limit_of r) (value_of_digits digits)) refl
  where
    by_test : (b : Bool) → ltb (limit_of r) (value_of_digits digits) ≡ b
        → Says (RuleConstant r (Number digits)) (IsKnown names (Number digits)) place place (given_constant a coefs r negative place (if b then None else Some (value_of_digits digits)))
    by_test true e = let past = ltb-true (limit_of r) (value_of_digits digits) e in (tt, (λ most. absurd (omega (arith, past, most))), refl)
    by_test false e = ltb-false (limit_of r) (value_of_digits digits) e
number_says names a coefs r negative place s = tt

constant_says : (names : List (List ℕ)) (a : Around) (coefs : List ℤ) (r : Relation) (place : ℕ) (s : Symbol) → Says (RuleConstant r s) (IsKnown names s) place place (constant_step a coefs r place s)
constant_says names a coefs r place Minus = tt
constant_says names a coefs r place s = number_says names a coefs r false place s

closed_plain : (above : List Span) (p : PredTree) (place : ℕ) → Plain (close_step above p place)
closed_plain [] p place = tt
closed_plain (span ∷ above) p place = tt

sign_plain : (above : List Span) (ors : Option PredTree) (p : PredTree) (place : ℕ) (s : Symbol) → Plain (sign_step above ors p place s)
sign_plain above ors p place And = tt
sign_plain above ors p place Or = tt
sign_plain above ors p place Close = closed_plain above (disjunction ors p) place
sign_plain above ors p place s = tt

modulo_plain : (a : Around) (coefs : List ℤ) (unequal : Bool) (c : ℤ) (place : ℕ) (s : Symbol) → Plain (modulo_step a coefs unequal c place s)
modulo_plain a coefs unequal c place Mod = tt
modulo_plain a coefs unequal c place s = sign_plain a.above a.span.ors (tree_up_to_unit a.span (negation_if unequal (equality_tree coefs c))) place s

modulus_says : (names : List (List ℕ)) (a : Around) (coefs : List ℤ) (unequal : Bool) (c : ℤ) (place : ℕ) (s : Symbol) → Says (RuleModulus s) (IsKnown names s) place place (modulus_step a coefs unequal c place s)
modulus_says names a coefs unequal c place (Number digits) = by_test (ltb MODULUS_LIMIT (value_of_digits digits)) refl (ltb (value_of_digits digits) 2) refl
  where
    by_test : (b : Bool) → ltb MODULUS_LIMIT (value_of_digits digits) ≡ b → (small : Bool) → ltb (value_of_digits digits) 2 ≡ small
        → Says (RuleModulus (Number digits)) (IsKnown names (Number digits)) place place (given_modulus a coefs unequal c place (if b then None else Some (value_of_digits digits)))
    by_test true e small f = let past = ltb-true MODULUS_LIMIT (value_of_digits digits) e in (tt, (λ h. let most = h.1 in absurd (omega (arith, past, most))), refl)
    by_test false e true f = let less = ltb-true (value_of_digits digits) 2 f in rw f (tt, (λ h. let least = h.0 in absurd (omega (arith, less, least))), refl)
    by_test false e false f = rw f (ltb-false (value_of_digits digits) 2 f, ltb-false MODULUS_LIMIT (value_of_digits digits) e)
modulus_says names a coefs unequal c place s = tt

-- where the term begins whose name comes next
abbrev pub first_at : Trace → ℕ → ℕ → ℕ
first_at (Inside above side (IName lead digits)) first place = first
first_at a first place = place

abbrev pub SaysAt : List (List ℕ) → Trace → ℕ → ℕ → Symbol → Result Progress ReadPred → Type 0
SaysAt names a first place s r = Says (RuleAt names a s) (IsKnown names s) place (first_at a first place) r

shown_says : (names : List (List ℕ)) (a : Trace) (first : ℕ) (t : Placed) → SaysAt names a first t.place t.symbol (step names (shown names first a) t)
unfolding step
shown_says names (Inside above side IUnit) first t = unit_says names (around_side names above side) t.place t.symbol
shown_says names (Inside above side (ITerm lead)) first t = lead_says names (around_side names above side) lead t.place t.symbol
shown_says names (Inside above side (IStar lead digits)) first t =
    plain_says (IsKnown names t.symbol) t.place t.place (star_step (around_side names above side) (lead_coefs names lead) (lead_factor lead digits first) t.place t.symbol) (star_plain (around_side names above side) (lead_coefs names lead) (lead_factor lead digits first) t.place t.symbol)
shown_says names (Inside above side (IName lead digits)) first t = name_says names (around_side names above side) lead digits first t.place t.symbol
shown_says names (Inside above side (IRelation sum)) first t =
    plain_says (IsKnown names t.symbol) t.place t.place (relation_step (around_side names above side) (coefs_of names sum) t.place t.symbol) (relation_plain (around_side names above side) (coefs_of names sum) t.place t.symbol)
shown_says names (Inside above side (IConstant sum r)) first t = constant_says names (around_side names above side) (coefs_of names sum) r t.place t.symbol
shown_says names (Inside above side (INumber sum r)) first t = number_says names (around_side names above side) (coefs_of names sum) r true t.place t.symbol
shown_says names (Inside above side (IModulo sum unequal negative digits)) first t =
    plain_says (IsKnown names t.symbol) t.place t.place (modulo_step (around_side names above side) (coefs_of names sum) unequal (signed_number negative (value_of_digits digits)) t.place t.symbol)
    (modulo_plain (around_side names above side) (coefs_of names sum) unequal (signed_number negative (value_of_digits digits)) t.place t.symbol)
shown_says names (Inside above side (IModulus sum unequal negative digits)) first t = modulus_says names (around_side names above side) (coefs_of names sum) unequal (signed_number negative (value_of_digits digits)) t.place t.symbol
shown_says names (Done above ors c) first t =
    plain_says (IsKnown names t.symbol) t.place t.place (sign_step (side_spans names above) (option_map (meaning names) ors) (meaning names c) t.place t.symbol)
    (sign_plain (side_spans names above) (option_map (meaning names) ors) (meaning names c) t.place t.symbol)

pub step_says : (names : List (List ℕ)) (p : Progress) (a : Trace) (first : ℕ) (t : Placed) → p ≡ shown names first a → SaysAt names a first t.place t.symbol (step names p t)
step_says names p a first t e = subst (λ (q : Progress). SaysAt names a first t.place t.symbol (step names q t)) (sym e) (shown_says names a first t)

-- ---- where a term begins

-- the tokens before a `*` or a name, if a term has begun: its number, at its place, and the `*`
abbrev pub TermBegun : Next → List Placed → Type 0
TermBegun (AStar coefs factor) before = (earlier : List Placed) × (number : Placed) × (before ≡ earlier ++ number ∷ []) × (number.symbol ≡ Number factor.digits) × (number.place ≡ factor.place)
TermBegun (AName coefs factor) before =
    (earlier : List Placed) × (number : Placed) × (star : Placed) × (before ≡ earlier ++ number ∷ star ∷ []) × (number.symbol ≡ Number factor.digits) × (star.symbol ≡ Star) × (number.place ≡ factor.place)
TermBegun next before = Unit {0}

abbrev pub BegunAfter : Result Progress ReadPred → List Placed → Type 0
BegunAfter r before = IfOk r (λ q. TermBegun q.next before)

sum_begun : (a : Around) (r : Result (List ℤ) ReadPred) (before : List Placed) → BegunAfter (after_sum a r) before
sum_begun a (Ok coefs) before = tt
sum_begun a (Err e) before = tt

term_begun : (names : List (List ℕ)) (a : Around) (coefs : List ℤ) (negative : Bool) (place : ℕ) (s : Symbol) (before : List Placed) → (t : Placed) → t.symbol ≡ s → t.place ≡ place
    → BegunAfter (term_step names a coefs negative place s) (before ++ t ∷ [])
term_begun names a coefs negative place (Name word) before t e f = sum_begun a (added names coefs (lone negative place) place word) (before ++ t ∷ [])
term_begun names a coefs negative place (Number digits) before t e f = (before, t, refl, e, f)
term_begun names a coefs negative place s before t e f = tt

unit_begun : (names : List (List ℕ)) (a : Around) (place : ℕ) (s : Symbol) (before : List Placed) (t : Placed) → t.symbol ≡ s → t.place ≡ place → BegunAfter (unit_step names a place s) (before ++ t ∷ [])
unit_begun names a place Not before t e f = tt
unit_begun names a place Open before t e f = tt
unit_begun names a place Minus before t e f = tt
unit_begun names a place s before t e f = term_begun names a (zero_coefs names) false place s before t e f

star_begun : (a : Around) (coefs : List ℤ) (factor : Factor) (place : ℕ) (s : Symbol) (before : List Placed) (t : Placed) → t.symbol ≡ s → TermBegun (AStar coefs factor) before
    → BegunAfter (star_step a coefs factor place s) (before ++ t ∷ [])
star_begun a coefs factor place Star before t e h =
    (h.0, h.1, t, ap (λ ts. ts ++ t ∷ []) h.2 ∙ append_assoc h.0 (h.1 ∷ []) (t ∷ []), h.3, e, h.4)
star_begun a coefs factor place s before t e h = tt

name_begun : (names : List (List ℕ)) (a : Around) (coefs : List ℤ) (factor : Factor) (place : ℕ) (s : Symbol) (before : List Placed) → BegunAfter (name_step names a coefs factor place s) before
name_begun names a coefs factor place (Name word) before = sum_begun a (added names coefs factor place word) before
name_begun names a coefs factor place s before = tt

relation_begun : (a : Around) (coefs : List ℤ) (place : ℕ) (s : Symbol) (before : List Placed) → BegunAfter (relation_step a coefs place s) before
relation_begun a coefs place Plus before = tt
relation_begun a coefs place Minus before = tt
relation_begun a coefs place (Compare r) before = tt
relation_begun a coefs place s before = tt

compared_begun : (a : Around) (coefs : List ℤ) (r : Relation) (c : ℤ) (before : List Placed) → TermBegun (progress_after_constant a coefs r c).next before
compared_begun a coefs Less c before = tt
compared_begun a coefs AtMost c before = tt
compared_begun a coefs Greater c before = tt
compared_begun a coefs AtLeast c before = tt
compared_begun a coefs Equal c before = tt
compared_begun a coefs Unequal c before = tt

constant_given : (a : Around) (coefs : List ℤ) (r : Relation) (negative : Bool) (place : ℕ) (o : Option ℕ) (before : List Placed) → BegunAfter (given_constant a coefs r negative place o) before
constant_given a coefs r negative place None before = tt
constant_given a coefs r negative place (Some n) before = compared_begun a coefs r (signed_number negative n) before

number_begun : (a : Around) (coefs : List ℤ) (r : Relation) (negative : Bool) (place : ℕ) (s : Symbol) (before : List Placed) → BegunAfter (number_step a coefs r negative place s) before
number_begun a coefs r negative place (Number digits) before = constant_given a coefs r negative place (value_within (limit_of r) (value_of_digits digits)) before
number_begun a coefs r negative place s before = tt

constant_begun : (a : Around) (coefs : List ℤ) (r : Relation) (place : ℕ) (s : Symbol) (before : List Placed) → BegunAfter (constant_step a coefs r place s) before
constant_begun a coefs r place Minus before = tt
constant_begun a coefs r place s before = number_begun a coefs r false place s before

closed_begun : (above : List Span) (p : PredTree) (place : ℕ) (before : List Placed) → BegunAfter (close_step above p place) before
closed_begun [] p place before = tt
closed_begun (span ∷ above) p place before = tt

sign_begun : (above : List Span) (ors : Option PredTree) (p : PredTree) (place : ℕ) (s : Symbol) (before : List Placed) → BegunAfter (sign_step above ors p place s) before
sign_begun above ors p place And before = tt
sign_begun above ors p place Or before = tt
sign_begun above ors p place Close before = closed_begun above (disjunction ors p) place before
sign_begun above ors p place s before = tt

modulo_begun : (a : Around) (coefs : List ℤ) (unequal : Bool) (c : ℤ) (place : ℕ) (s : Symbol) (before : List Placed) → BegunAfter (modulo_step a coefs unequal c place s) before
modulo_begun a coefs unequal c place Mod before = tt
modulo_begun a coefs unequal c place s before = sign_begun a.above a.span.ors (tree_up_to_unit a.span (negation_if unequal (equality_tree coefs c))) place s before

modulus_given : (a : Around) (coefs : List ℤ) (unequal : Bool) (c : ℤ) (place : ℕ) (o : Option ℕ) (before : List Placed) → BegunAfter (given_modulus a coefs unequal c place o) before
modulus_given a coefs unequal c place None before = tt
modulus_given a coefs unequal c place (Some m) before = by_test (ltb m 2)
  where
    by_test : (b : Bool) → BegunAfter (if b then Err (TooLarge place) else Ok (progress_after_unit a (congruent_tree coefs unequal c m))) before
    by_test true = tt
    by_test false = tt

modulus_begun : (a : Around) (coefs : List ℤ) (unequal : Bool) (c : ℤ) (place : ℕ) (s : Symbol) (before : List Placed) → BegunAfter (modulus_step a coefs unequal c place s) before
modulus_begun a coefs unequal c place (Number digits) before = modulus_given a coefs unequal c place (value_within MODULUS_LIMIT (value_of_digits digits)) before
modulus_begun a coefs unequal c place s before = tt

next_begun : (names : List (List ℕ)) (a : Around) (next : Next) (before : List Placed) (t : Placed) → TermBegun next before → BegunAfter (by_next names a next t.place t.symbol) (before ++ t ∷ [])
next_begun names a AUnit before t h = unit_begun names a t.place t.symbol before t refl refl
next_begun names a (ATerm coefs negative) before t h = term_begun names a coefs negative t.place t.symbol before t refl refl
next_begun names a (AStar coefs factor) before t h = star_begun a coefs factor t.place t.symbol before t refl h
next_begun names a (AName coefs factor) before t h = name_begun names a coefs factor t.place t.symbol (before ++ t ∷ [])
next_begun names a (ARelation coefs) before t h = relation_begun a coefs t.place t.symbol (before ++ t ∷ [])
next_begun names a (AConstant coefs r) before t h = constant_begun a coefs r t.place t.symbol (before ++ t ∷ [])
next_begun names a (ANumber coefs r) before t h = number_begun a coefs r true t.place t.symbol (before ++ t ∷ [])
next_begun names a (AModulo coefs unequal c) before t h = modulo_begun a coefs unequal c t.place t.symbol (before ++ t ∷ [])
next_begun names a (AModulus coefs unequal c) before t h = modulus_begun a coefs unequal c t.place t.symbol (before ++ t ∷ [])
next_begun names a (ASign p) before t h = sign_begun a.above a.span.ors p t.place t.symbol (before ++ t ∷ [])

pub step_begun : (names : List (List ℕ)) (p : Progress) (before : List Placed) (t : Placed) → TermBegun p.next before → BegunAfter (step names p t) (before ++ t ∷ [])
unfolding step
step_begun names p before t h = next_begun names p.around p.next before t h
