-- If each symbol keeps its rule, the complete sums, constants and moduli in the symbols are within the limits.
use Rattle.std.proofs.Common.{◌≡◌, ◌≤◌, ℕ, Bool, true, false, List, [], ◌∷◌, ◌++◌, Option, Some, None, refl, ap, subst, ◌∙◌, append_assoc}
use Rattle.pres_ast.specs.declared.limits.TheConstants.{MODULUS_LIMIT}
use Rattle.pres_tokens.specs.declared.token.Relation.{Relation}
use Rattle.pres_tokens.specs.Symbols.{Symbol, Name, Number, Plus, Minus, Star, Compare, Close, Mod}
use Rattle.pres_read.specs.Numbers.{value_of_digits}
use Rattle.pres_read.specs.Atoms.{limit_of}
use Rattle.pres_read.specs.Atoms.{zero_coefs}
use Rattle.pres_read.specs.Grammar.{Term, bare, times, Sum, first, further, APred, AConj, Phrase, term_symbols, minus_if, plus_or_minus, sum_symbols, constant_symbols, coefs_of}
use Rattle.pres_read.specs.Rules.{TermFits, SumFits, NumbersFit, last_is, opens}
use Rattle.pres_read.proofs.Traces.{Lead, IUnit, ITerm, IStar, IName, IRelation, IConstant, INumber, IModulo, IModulus, Side, Trace, Inside, Done, begun, trace_sign, trace_term, trace_unit, trace_star, trace_name, trace_relation, trace_number, trace_constant, equality_conj, trace_modulo, trace_modulus, trace_step, trace_goes_by, trace_run}
use Rattle.pres_read.proofs.Kept.{Kept, KeptAfter, RuleAt}

-- ---- runs and rules in two parts

abbrev Split : Trace → Trace → List Symbol → List Symbol → Type 0
Split a b xs ys = (m : Trace) × (trace_run a xs ≡ Some m) × (trace_run m ys ≡ Some b)

split_by : (b : Trace) (xs ys : List Symbol) (o : Option Trace) → ((c : Trace) → trace_run c (xs ++ ys) ≡ Some b → Split c b xs ys) → trace_goes_by o (λ c. trace_run c (xs ++ ys)) ≡ Some b
    → (m : Trace) × (trace_goes_by o (λ c. trace_run c xs) ≡ Some m) × (trace_run m ys ≡ Some b)
split_by b xs ys None go h = absurd cc
split_by b xs ys (Some c) go h = go c h

run_split : (a b : Trace) (xs ys : List Symbol) → trace_run a (xs ++ ys) ≡ Some b → Split a b xs ys
run_split a b [] ys e = (a, refl, e)
run_split a b (x ∷ xs) ys e = split_by b xs ys (trace_step a x) (λ c h. run_split c b xs ys h) e

join_by : (m : Trace) (xs ys : List Symbol) (o : Option Trace) → ((c : Trace) → trace_run c xs ≡ Some m → trace_run c (xs ++ ys) ≡ trace_run m ys) → trace_goes_by o (λ c. trace_run c xs) ≡ Some m
    → trace_goes_by o (λ c. trace_run c (xs ++ ys)) ≡ trace_run m ys
join_by m xs ys None go h = absurd cc
join_by m xs ys (Some c) go h = go c h

pub run_join : (a m : Trace) (xs ys : List Symbol) → trace_run a xs ≡ Some m → trace_run a (xs ++ ys) ≡ trace_run m ys
run_join a m [] ys e = let same : a ≡ m = cc in ap (λ c. trace_run c ys) same
run_join a m (x ∷ xs) ys e = join_by m xs ys (trace_step a x) (λ c h. run_join c m xs ys h) e

kept_by : (names : List (List ℕ)) (m : Trace) (xs ys : List Symbol) (o : Option Trace) → ((c : Trace) → trace_run c xs ≡ Some m → Kept names c (xs ++ ys) → Kept names m ys) → trace_goes_by o (λ c. trace_run c xs) ≡ Some m
    → KeptAfter o (λ c. Kept names c (xs ++ ys)) → Kept names m ys
kept_by names m xs ys None go h l = absurd cc
kept_by names m xs ys (Some c) go h l = go c h l

kept_split : (names : List (List ℕ)) (a m : Trace) (xs ys : List Symbol) → trace_run a xs ≡ Some m → Kept names a (xs ++ ys) → Kept names m ys
kept_split names a m [] ys e k = let same : a ≡ m = cc in subst (λ (c : Trace). Kept names c ys) same k
kept_split names a m (x ∷ xs) ys e k = kept_by names m xs ys (trace_step a x) (λ c h l. kept_split names c m xs ys h l) e k.1

push_by : (names : List (List ℕ)) (m : Trace) (xs : List Symbol) (s : Symbol) (o : Option Trace) → ((c : Trace) → trace_run c xs ≡ Some m → Kept names c xs → Kept names c (xs ++ s ∷ [])) → trace_goes_by o (λ c. trace_run c xs) ≡ Some m
    → KeptAfter o (λ c. Kept names c xs) → KeptAfter o (λ c. Kept names c (xs ++ s ∷ []))
push_by names m xs s None go h j = absurd cc
push_by names m xs s (Some c) go h j = go c h j

pub kept_push : (names : List (List ℕ)) (a m : Trace) (xs : List Symbol) (s : Symbol) → trace_run a xs ≡ Some m → Kept names a xs → RuleAt names m s → KeptAfter (trace_step m s) (λ c. Kept names c []) → Kept names a (xs ++ s ∷ [])
kept_push names a m [] s e k r l = let same : m ≡ a = cc in subst (λ (c : Trace). Kept names c (s ∷ [])) same (r, l)
kept_push names a m (x ∷ xs) s e k r l = (k.0, push_by names m xs s (trace_step a x) (λ c h j. kept_push names c m xs s h j r l) e k.1)

-- ---- where a unit begins

abbrev IsAtUnit : Trace → Type 0
IsAtUnit (Inside above side IUnit) = Unit {0}
IsAtUnit a = ⊥

abbrev UnitNext : Option Trace → Type 0
UnitNext None = Unit {0}
UnitNext (Some b) = IsAtUnit b

term_opens : (above : List Side) (side : Side) (lead : Lead) (s : Symbol) → opens s ≡ true → UnitNext (trace_term above side lead s)
term_opens above side lead (Name word) e = absurd cc
term_opens above side lead (Number digits) e = absurd cc
term_opens above side lead s e = tt

unit_opens : (above : List Side) (side : Side) (s : Symbol) → opens s ≡ true → UnitNext (trace_unit above side s)
unit_opens above side (Name word) e = absurd cc
unit_opens above side (Number digits) e = absurd cc
unit_opens above side Minus e = absurd cc
unit_opens above side s e = tt

star_opens : (above : List Side) (side : Side) (lead : Lead) (digits : List ℕ) (s : Symbol) → opens s ≡ true → UnitNext (trace_star above side lead digits s)
star_opens above side lead digits Star e = absurd cc
star_opens above side lead digits s e = tt

name_opens : (above : List Side) (side : Side) (lead : Lead) (digits : List ℕ) (s : Symbol) → opens s ≡ true → UnitNext (trace_name above side lead digits s)
name_opens above side lead digits (Name word) e = absurd cc
name_opens above side lead digits s e = tt

relation_opens : (above : List Side) (side : Side) (sum : Sum) (s : Symbol) → opens s ≡ true → UnitNext (trace_relation above side sum s)
relation_opens above side sum Plus e = absurd cc
relation_opens above side sum Minus e = absurd cc
relation_opens above side sum (Compare r) e = absurd cc
relation_opens above side sum s e = tt

number_opens : (above : List Side) (side : Side) (sum : Sum) (r : Relation) (negative : Bool) (s : Symbol) → opens s ≡ true → UnitNext (trace_number above side sum r negative s)
number_opens above side sum r negative (Number digits) e = absurd cc
number_opens above side sum r negative s e = tt

constant_opens : (above : List Side) (side : Side) (sum : Sum) (r : Relation) (s : Symbol) → opens s ≡ true → UnitNext (trace_constant above side sum r s)
constant_opens above side sum r Minus e = absurd cc
constant_opens above side sum r s e = number_opens above side sum r false s e

sign_opens : (above : List Side) (ors : Option (Phrase APred)) (c : Phrase AConj) (s : Symbol) → opens s ≡ true → UnitNext (trace_sign above ors c s)
sign_opens above ors c Close e = absurd cc
sign_opens above ors c s e = tt

modulo_opens : (above : List Side) (side : Side) (sum : Sum) (unequal negative : Bool) (digits : List ℕ) (s : Symbol) → opens s ≡ true → UnitNext (trace_modulo above side sum unequal negative digits s)
modulo_opens above side sum unequal negative digits Mod e = absurd cc
modulo_opens above side sum unequal negative digits s e = sign_opens above side.ors (equality_conj side sum unequal negative digits) s e

modulus_opens : (above : List Side) (side : Side) (sum : Sum) (unequal negative : Bool) (digits : List ℕ) (s : Symbol) → opens s ≡ true → UnitNext (trace_modulus above side sum unequal negative digits s)
modulus_opens above side sum unequal negative digits (Number modulus) e = absurd cc
modulus_opens above side sum unequal negative digits s e = tt

step_opens : (a : Trace) (s : Symbol) → opens s ≡ true → UnitNext (trace_step a s)
step_opens (Inside above side IUnit) s e = unit_opens above side s e
step_opens (Inside above side (ITerm lead)) s e = term_opens above side lead s e
step_opens (Inside above side (IStar lead digits)) s e = star_opens above side lead digits s e
step_opens (Inside above side (IName lead digits)) s e = name_opens above side lead digits s e
step_opens (Inside above side (IRelation sum)) s e = relation_opens above side sum s e
step_opens (Inside above side (IConstant sum r)) s e = constant_opens above side sum r s e
step_opens (Inside above side (INumber sum r)) s e = number_opens above side sum r true s e
step_opens (Inside above side (IModulo sum unequal negative digits)) s e = modulo_opens above side sum unequal negative digits s e
step_opens (Inside above side (IModulus sum unequal negative digits)) s e = modulus_opens above side sum unequal negative digits s e
step_opens (Done above ors c) s e = sign_opens above ors c s e

last_opens : (m : Trace) (b : Option Trace) → UnitNext b → trace_goes_by b (λ c. trace_run c []) ≡ Some m → IsAtUnit m
last_opens m None u h = absurd cc
last_opens m (Some c) u h = let same : c ≡ m = cc in subst IsAtUnit same u

more_opens : (m : Trace) (ss : List Symbol) (b : Option Trace) → ((c : Trace) → trace_run c ss ≡ Some m → IsAtUnit m) → trace_goes_by b (λ c. trace_run c ss) ≡ Some m → IsAtUnit m
more_opens m ss None go h = absurd cc
more_opens m ss (Some c) go h = go c h

some_opens : (a m : Trace) (s : Symbol) (ss : List Symbol) → trace_run a (s ∷ ss) ≡ Some m → last_is opens true (s ∷ ss) ≡ true → IsAtUnit m
some_opens a m s [] e o = last_opens m (trace_step a s) (step_opens a s o) e
some_opens a m s (t ∷ ss) e o = more_opens m (t ∷ ss) (trace_step a s) (λ c h. some_opens c m t ss h o) e

begun_opens : (m : Trace) (ss : List Symbol) → trace_run begun ss ≡ Some m → last_is opens true ss ≡ true → IsAtUnit m
begun_opens m [] e o = let same : begun ≡ m = cc in subst IsAtUnit same tt
begun_opens m (s ∷ ss) e o = some_opens begun m s ss e o

-- ---- sums

first_fits : (names : List (List ℕ)) (above : List Side) (side : Side) (negative : Bool) (term : Term) (rest : List Symbol)
    → Kept names (Inside above side IUnit) ((minus_if negative ++ term_symbols term) ++ rest) → TermFits names (zero_coefs names) negative term
first_fits names above side false (bare name) rest k = k.0
first_fits names above side false (times digits name) rest k = k.1.1.0
first_fits names above side true (bare name) rest k = k.1.0
first_fits names above side true (times digits name) rest k = k.1.1.1.0

further_fits : (names : List (List ℕ)) (above : List Side) (side : Side) (sum : Sum) (negative : Bool) (term : Term) (rest : List Symbol)
    → Kept names (Inside above side (IRelation sum)) (plus_or_minus negative ∷ (term_symbols term ++ rest)) → TermFits names (coefs_of names sum) negative term
further_fits names above side sum false (bare name) rest k = k.1.0
further_fits names above side sum false (times digits name) rest k = k.1.1.1.0
further_fits names above side sum true (bare name) rest k = k.1.0
further_fits names above side sum true (times digits name) rest k = k.1.1.1.0

first_run : (above : List Side) (side : Side) (negative : Bool) (term : Term) → trace_run (Inside above side IUnit) (minus_if negative ++ term_symbols term) ≡ Some (Inside above side (IRelation (first negative term)))
first_run above side false (bare name) = refl
first_run above side false (times digits name) = refl
first_run above side true (bare name) = refl
first_run above side true (times digits name) = refl

further_run : (above : List Side) (side : Side) (sum : Sum) (negative : Bool) (term : Term) → trace_run (Inside above side (IRelation sum)) (plus_or_minus negative ∷ term_symbols term) ≡ Some (Inside above side (IRelation (further sum negative term)))
further_run above side sum false (bare name) = refl
further_run above side sum false (times digits name) = refl
further_run above side sum true (bare name) = refl
further_run above side sum true (times digits name) = refl

sum_run : (above : List Side) (side : Side) (sum : Sum) → trace_run (Inside above side IUnit) (sum_symbols sum) ≡ Some (Inside above side (IRelation sum))
sum_run above side (first negative term) = first_run above side negative term
sum_run above side (further sum negative term) =
    run_join (Inside above side IUnit) (Inside above side (IRelation sum)) (sum_symbols sum) (plus_or_minus negative ∷ term_symbols term) (sum_run above side sum) ∙ further_run above side sum negative term

sum_fits : (names : List (List ℕ)) (above : List Side) (side : Side) (sum : Sum) (rest : List Symbol) → Kept names (Inside above side IUnit) (sum_symbols sum ++ rest) → SumFits names sum
sum_fits names above side (first negative term) rest k = first_fits names above side negative term rest k
sum_fits names above side (further sum negative term) rest k =
    let split = subst (Kept names (Inside above side IUnit)) (append_assoc (sum_symbols sum) (plus_or_minus negative ∷ term_symbols term) rest) k in
    let more = plus_or_minus negative ∷ (term_symbols term ++ rest) in (
      sum_fits names above side sum more split,
      further_fits names above side sum negative term rest (kept_split names (Inside above side IUnit) (Inside above side (IRelation sum)) (sum_symbols sum) more (sum_run above side sum) split),
    )

sum_at : (names : List (List ℕ)) (m : Trace) (sum : Sum) (rest : List Symbol) → IsAtUnit m → Kept names m (sum_symbols sum ++ rest) → SumFits names sum
sum_at names (Inside above side IUnit) sum rest u k = sum_fits names above side sum rest k
sum_at names m sum rest u k = absurd u

-- ---- constants and moduli

constant_at : (names : List (List ℕ)) (m last : Trace) (r : Relation) (negative : Bool) (digits : List ℕ) (rest : List Symbol) → trace_run m (Compare r ∷ (constant_symbols negative digits ++ rest)) ≡ Some last
    → Kept names m (Compare r ∷ (constant_symbols negative digits ++ rest)) → value_of_digits digits ≤ limit_of r
constant_at names (Inside above side (IRelation sum)) last r false digits rest e k = k.1.0
constant_at names (Inside above side (IRelation sum)) last r true digits rest e k = k.1.1.0
constant_at names (Inside above side IUnit) last r negative digits rest e k = absurd cc
constant_at names (Inside above side (ITerm lead)) last r negative digits rest e k = absurd cc
constant_at names (Inside above side (IStar lead ds)) last r negative digits rest e k = absurd cc
constant_at names (Inside above side (IName lead ds)) last r negative digits rest e k = absurd cc
constant_at names (Inside above side (IConstant sum s)) last r negative digits rest e k = absurd cc
constant_at names (Inside above side (INumber sum s)) last r negative digits rest e k = absurd cc
constant_at names (Inside above side (IModulo sum u n ds)) last r negative digits rest e k = absurd cc
constant_at names (Inside above side (IModulus sum u n ds)) last r negative digits rest e k = absurd cc
constant_at names (Done above ors c) last r negative digits rest e k = absurd cc

modulus_at : (names : List (List ℕ)) (m last : Trace) (digits : List ℕ) (rest : List Symbol) → trace_run m (Mod ∷ Number digits ∷ rest) ≡ Some last → Kept names m (Mod ∷ Number digits ∷ rest)
    → (2 ≤ value_of_digits digits) × (value_of_digits digits ≤ MODULUS_LIMIT)
modulus_at names (Inside above side (IModulo sum u n ds)) last digits rest e k = k.1.0
modulus_at names (Inside above side IUnit) last digits rest e k = absurd cc
modulus_at names (Inside above side (ITerm lead)) last digits rest e k = absurd cc
modulus_at names (Inside above side (IStar lead ds)) last digits rest e k = absurd cc
modulus_at names (Inside above side (IName lead ds)) last digits rest e k = absurd cc
modulus_at names (Inside above side (IRelation sum)) last digits rest e k = absurd cc
modulus_at names (Inside above side (IConstant sum s)) last digits rest e k = absurd cc
modulus_at names (Inside above side (INumber sum s)) last digits rest e k = absurd cc
modulus_at names (Inside above side (IModulus sum u n ds)) last digits rest e k = absurd cc
modulus_at names (Done above ors c) last digits rest e k = absurd cc

pub numbers_fit : (names : List (List ℕ)) (ss : List Symbol) (last : Trace) → trace_run begun ss ≡ Some last → Kept names begun ss → NumbersFit names ss
numbers_fit names ss last went kept = record {
  sums = λ before later sum e o.
      let s = run_split begun last before (sum_symbols sum ++ later) (subst (λ (xs : List Symbol). trace_run begun xs ≡ Some last) e went) in
      sum_at names s.0 sum later (begun_opens s.0 before s.1 o) (kept_split names begun s.0 before (sum_symbols sum ++ later) s.1 (subst (Kept names begun) e kept));
  constants = λ before later r negative digits e.
      let more = Compare r ∷ (constant_symbols negative digits ++ later) in
      let s = run_split begun last before more (subst (λ (xs : List Symbol). trace_run begun xs ≡ Some last) e went) in
      constant_at names s.0 last r negative digits later s.2 (kept_split names begun s.0 before more s.1 (subst (Kept names begun) e kept));
  moduli = λ before later digits e.
      let more = Mod ∷ Number digits ∷ later in
      let s = run_split begun last before more (subst (λ (xs : List Symbol). trace_run begun xs ≡ Some last) e went) in
      modulus_at names s.0 last digits later s.2 (kept_split names begun s.0 before more s.1 (subst (Kept names begun) e kept));
}
