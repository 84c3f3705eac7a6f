-- Sums of facts by multipliers in the order of the facts.
use Rattle.std.proofs.Common.{◌≡◌, ℕ, zero, suc, ◌+◌, ◌≤◌, Bool, true, false, ◌&&◌, ◌||◌, List, [], ◌∷◌, ◌++◌, length, map, get_or, refl, ap, sym, ◌∙◌, zero-add, arith}
use Rattle.std.specs.Prelude.{ℤ, pos, negsuc, ◌+ℤ◌, ◌*ℤ◌, ◌≤ℤ◌, Some, slice_get, Contains, if◌then◌else◌, ◌==◌, not, int_le}
use Rattle.std.specs.Ordering.{int_eq}
use lib.Dec.{T}
use Rattle.std.proofs.lemmas.Bool.{eq-eqb, or_right}
use Rattle.pres_ast.specs.PredicateValue.{is_multiple}
use Rattle.cert_base.specs.declared.fact.Fact.TheVariants.{NotCong}
use Rattle.std.specs.List.{list_any}
use Rattle.std.proofs.lemmas.Int.{ints}
use Rattle.std.proofs.Math.IntN.{*ℤ-zero, zero-*ℤ}
use Rattle.std.proofs.lemmas.List.Sums.{list_all-from_AllPass}
use Rattle.cert_base.specs.declared.fact.Term.{Term}
use Rattle.cert_base.specs.declared.fact.Row.{Row}
use Rattle.cert_base.specs.declared.fact.Fact.{Fact}
use Rattle.cert_base.specs.Rows.{terms_from, zeros}
use Rattle.cert_base.specs.ClosingTests.{row_of, times, add_rows, scaled, sum_of, coefficient_in, each_coefficient, may_have, all_named, may_add, closes_by_sum, may_add_modulo, closes_by_residue, denies}
use Rattle.cert_base.proofs.Integers.{mul-add, int_eq-true}
use Rattle.cert_base.specs.WeightedSums.{sum_of_facts, coefficient, constant_of, may_weigh, StandFrom}
use Rattle.pop_leaf.proofs.Reactions.{and_left, and_right}

abbrev pub multiplied : ℤ → List Term → List Term
multiplied a ts = map (λ t. record { at = t.at; by = a *ℤ t.by }) ts

pub coefficient-append : (ts us : List Term) (q : ℕ) → coefficient_in (ts ++ us) q ≡ (coefficient_in ts q +ℤ coefficient_in us q)
coefficient-append [] us q = omega (arith, ints)
coefficient-append (t ∷ ts) us q = let e = coefficient-append ts us q in omega (arith, ints, e)

pub coefficient-times : (a : ℤ) (ts : List Term) (q : ℕ) → coefficient_in (multiplied a ts) q ≡ (a *ℤ coefficient_in ts q)
coefficient-times a [] q = sym (*ℤ-zero a)
coefficient-times a (t ∷ ts) q =
    let e = coefficient-times a ts q in
    let f = mul-add a (if t.at == q then t.by else pos 0) (coefficient_in ts q) in
    let g = of_term-times (t.at == q) in
    omega (arith, ints, e, f, g)
  where
    of_term-times : (same : Bool) → (if same then (a *ℤ t.by) else pos 0) ≡ (a *ℤ (if same then t.by else pos 0))
    of_term-times true = refl
    of_term-times false = sym (*ℤ-zero a)

pub none_weighted : (value : Fact → ℤ) (facts : List Fact) → sum_of_facts value facts [] ≡ pos 0
none_weighted value [] = refl
none_weighted value (f ∷ facts) = refl

-- the facts after the first one
from_later : (all facts : List Fact) (f : Fact) (k : ℕ) → StandFrom all k (f ∷ facts) → StandFrom all (k + 1) facts
from_later all facts f k are j = ap (slice_get all) (let e : k + 1 + j ≡ k + suc j = omega arith in e) ∙ are (suc j)

from_first : (all facts : List Fact) (f : Fact) (k : ℕ) → StandFrom all k (f ∷ facts) → slice_get all k ≡ Some f
from_first all facts f k are = ap (slice_get all) (let e : k ≡ k + 0 = omega arith in e) ∙ are 0

-- the sum that the terms name, variable by variable
pub coefficient-sum : (x : ℕ) (all facts : List Fact) (k : ℕ) (ms : List ℤ) → StandFrom all k facts → length ms ≤ length facts → coefficient_in (sum_of all (terms_from k ms)).terms x ≡ sum_of_facts (coefficient x) facts ms
coefficient-sum x all facts k [] are l = sym (none_weighted (coefficient x) facts)
coefficient-sum x all [] k (m ∷ ms) are l = absurd (omega arith)
coefficient-sum x all (f ∷ facts) k (m ∷ ms) are l =
    step (int_eq m (pos 0)) refl (coefficient-sum x all facts (k + 1) ms (from_later all facts f k are) (omega arith))
  where
    step : (b : Bool) → int_eq m (pos 0) ≡ b → coefficient_in (sum_of all (terms_from (k + 1) ms)).terms x ≡ sum_of_facts (coefficient x) facts ms → coefficient_in (sum_of all (if b then terms_from (k + 1) ms else (record { at = k; by = m } ∷ terms_from (k + 1) ms))).terms x ≡ ((m *ℤ coefficient x f) +ℤ sum_of_facts (coefficient x) facts ms)
    step true e rest =
        let none : (m *ℤ coefficient x f) ≡ pos 0 = ap (λ z. z *ℤ coefficient x f) (int_eq-true m (pos 0) e) ∙ zero-*ℤ (coefficient x f) in
        omega (arith, ints, none, rest)
    step false e rest =
        let here : coefficient_in (scaled m (slice_get all k)).terms x ≡ (m *ℤ coefficient x f) = ap (λ o. coefficient_in (scaled m o).terms x) (from_first all facts f k are) ∙ coefficient-times m (row_of f).terms x in
        coefficient-append (scaled m (slice_get all k)).terms (sum_of all (terms_from (k + 1) ms)).terms x ∙ (let h : (coefficient_in (scaled m (slice_get all k)).terms x +ℤ coefficient_in (sum_of all (terms_from (k + 1) ms)).terms x) ≡ ((m *ℤ coefficient x f) +ℤ sum_of_facts (coefficient x) facts ms) = rw (here, rest) refl in h)

pub constant-sum : (all facts : List Fact) (k : ℕ) (ms : List ℤ) → StandFrom all k facts → length ms ≤ length facts → (sum_of all (terms_from k ms)).constant ≡ sum_of_facts constant_of facts ms
constant-sum all facts k [] are l = sym (none_weighted constant_of facts)
constant-sum all [] k (m ∷ ms) are l = absurd (omega arith)
constant-sum all (f ∷ facts) k (m ∷ ms) are l =
    step (int_eq m (pos 0)) refl (constant-sum all facts (k + 1) ms (from_later all facts f k are) (omega arith))
  where
    step : (b : Bool) → int_eq m (pos 0) ≡ b → (sum_of all (terms_from (k + 1) ms)).constant ≡ sum_of_facts constant_of facts ms → (sum_of all (if b then terms_from (k + 1) ms else (record { at = k; by = m } ∷ terms_from (k + 1) ms))).constant ≡ ((m *ℤ constant_of f) +ℤ sum_of_facts constant_of facts ms)
    step true e rest =
        let none : (m *ℤ constant_of f) ≡ pos 0 = ap (λ z. z *ℤ constant_of f) (int_eq-true m (pos 0) e) ∙ zero-*ℤ (constant_of f) in
        omega (arith, ints, none, rest)
    step false e rest =
        let here : (scaled m (slice_get all k)).constant ≡ (m *ℤ constant_of f) = ap (λ o. (scaled m o).constant) (from_first all facts f k are) in
        rw (here, rest) refl

-- the terms name facts that may have their multipliers
pub all_named-weighted : (may : ℤ → Fact → Bool) (all facts : List Fact) (k : ℕ) (ms : List ℤ) → StandFrom all k facts → may_weigh may facts ms ≡ true → all_named may all (terms_from k ms) ≡ true
all_named-weighted may all facts k [] are e = refl
all_named-weighted may all [] k (m ∷ ms) are e = cc
all_named-weighted may all (f ∷ facts) k (m ∷ ms) are e =
    step (int_eq m (pos 0)) (and_left (int_eq m (pos 0) || may m f) (may_weigh may facts ms) e) (all_named-weighted may all facts (k + 1) ms (from_later all facts f k are) (and_right (int_eq m (pos 0) || may m f) (may_weigh may facts ms) e))
  where
    step : (b : Bool) → (b || may m f) ≡ true → all_named may all (terms_from (k + 1) ms) ≡ true → all_named may all (if b then terms_from (k + 1) ms else (record { at = k; by = m } ∷ terms_from (k + 1) ms)) ≡ true
    step true h rest = rest
    step false h rest =
        let here : may_have may m (slice_get all k) ≡ true = ap (may_have may m) (from_first all facts f k are) ∙ h in
        rw here rest

-- the sum of two parts
pub weighted_sum-append : (value : Fact → ℤ) (fs gs : List Fact) (ms ns : List ℤ) → length fs ≡ length ms → sum_of_facts value (fs ++ gs) (ms ++ ns) ≡ (sum_of_facts value fs ms +ℤ sum_of_facts value gs ns)
weighted_sum-append value [] gs [] ns e = omega (arith, ints)
weighted_sum-append value [] gs (m ∷ ms) ns e = absurd (omega arith)
weighted_sum-append value (f ∷ fs) gs [] ns e = absurd (omega arith)
weighted_sum-append value (f ∷ fs) gs (m ∷ ms) ns e =
    let rest = weighted_sum-append value fs gs ms ns (omega arith) in omega (arith, ints, rest)

pub may_weigh-append : (may : ℤ → Fact → Bool) (fs gs : List Fact) (ms ns : List ℤ) → length fs ≡ length ms → may_weigh may fs ms ≡ true → may_weigh may gs ns ≡ true → may_weigh may (fs ++ gs) (ms ++ ns) ≡ true
may_weigh-append may [] gs [] ns e h i = i
may_weigh-append may [] gs (m ∷ ms) ns e h i = absurd (omega arith)
may_weigh-append may (f ∷ fs) gs [] ns e h i = absurd (omega arith)
may_weigh-append may (f ∷ fs) gs (m ∷ ms) ns e h i =
    let first = and_left (int_eq m (pos 0) || may m f) (may_weigh may fs ms) h in
    let rest = may_weigh-append may fs gs ms ns (omega arith) (and_right (int_eq m (pos 0) || may m f) (may_weigh may fs ms) h) i in
    rw (first, rest) refl

-- multipliers that are 0
pub weighted_sum-zeros : (value : Fact → ℤ) (fs : List Fact) (n : ℕ) → sum_of_facts value fs (zeros n) ≡ pos 0
weighted_sum-zeros value [] n = refl
weighted_sum-zeros value (f ∷ fs) zero = refl
weighted_sum-zeros value (f ∷ fs) (suc n) =
    let here = zero-*ℤ (value f) in let rest = weighted_sum-zeros value fs n in omega (arith, ints, here, rest)

pub may_weigh-zeros : (may : ℤ → Fact → Bool) (fs : List Fact) (n : ℕ) → n ≤ length fs → may_weigh may fs (zeros n) ≡ true
may_weigh-zeros may [] zero l = refl
may_weigh-zeros may [] (suc n) l = absurd (omega arith)
may_weigh-zeros may (f ∷ fs) zero l = refl
may_weigh-zeros may (f ∷ fs) (suc n) l = may_weigh-zeros may fs n (omega arith)

may_weigh-short : (may : ℤ → Fact → Bool) (fs : List Fact) (ms : List ℤ) → may_weigh may fs ms ≡ true → length ms ≤ length fs
may_weigh-short may [] [] e = omega arith
may_weigh-short may [] (m ∷ ms) e = cc
may_weigh-short may (f ∷ fs) [] e = omega arith
may_weigh-short may (f ∷ fs) (m ∷ ms) e =
    let rest = may_weigh-short may fs ms (and_right (int_eq m (pos 0) || may m f) (may_weigh may fs ms) e) in omega arith

pub all_from : (facts : List Fact) → StandFrom facts 0 facts
all_from facts j = ap (slice_get facts) (zero-add j)

from_T : (b : Bool) → T b → b ≡ true
from_T true t = refl
from_T false t = absurd t

pub le-test : (a b : ℤ) → a ≤ℤ b → int_le a b ≡ true
le-test a b l = from_T (int_le a b) l.le

-- a test that the coefficient of each variable passes
each-weighted : (test : ℤ → Bool) (facts : List Fact) (ms : List ℤ) → length ms ≤ length facts → ((x : ℕ) → test (sum_of_facts (coefficient x) facts ms) ≡ true) → each_coefficient test (sum_of facts (terms_from 0 ms)) ≡ true
each-weighted test facts ms l passes =
    let terms = (sum_of facts (terms_from 0 ms)).terms in
    list_all-from_AllPass (λ t. test (coefficient_in terms t.at)) terms (λ k d m. ap test (coefficient-sum (get_or terms k d).at facts facts 0 ms (all_from facts) l) ∙ passes (get_or terms k d).at)

pub list_any-from : {A : Type 0} (test : A → Bool) (xs : List A) (x : A) → Contains xs x → test x ≡ true → list_any test xs ≡ true
list_any-from test [] x c e = absurd (omega (arith, c.1))
list_any-from {A} test (y ∷ xs) x (zero, l, h) e = let first : test y ≡ true = ap test h ∙ e in rw first refl
list_any-from {A} test (y ∷ xs) x (suc k, l, h) e =
    let rest = list_any-from test xs x (k, (omega (arith, l)), h) e in or_right (test y) _ rest

-- the closing tests
pub linear_closes-weighted : (facts : List Fact) (ms : List ℤ) → may_weigh may_add facts ms ≡ true → ((x : ℕ) → sum_of_facts (coefficient x) facts ms ≤ℤ pos 0) → sum_of_facts constant_of facts ms ≤ℤ negsuc 0 → closes_by_sum facts (terms_from 0 ms) ≡ true
linear_closes-weighted facts ms may low constant =
    let l = may_weigh-short may_add facts ms may in
    let named = all_named-weighted may_add facts facts 0 ms (all_from facts) may in
    let each = each-weighted (λ a. int_le a (pos 0)) facts ms l (λ x. le-test _ _ (low x)) in
    let last : int_le (sum_of facts (terms_from 0 ms)).constant (negsuc 0) ≡ true = ap (λ z. int_le z (negsuc 0)) (constant-sum facts facts 0 ms (all_from facts) l) ∙ le-test _ _ constant in
    rw (named, each, last) refl

-- modulo m, by the constant alone
pub residue_closes-constant : (facts : List Fact) (m : ℕ) (ms : List ℤ) → may_weigh (may_add_modulo m) facts ms ≡ true → ((x : ℕ) → is_multiple m (sum_of_facts (coefficient x) facts ms) ≡ true) → is_multiple m (sum_of_facts constant_of facts ms) ≡ false → closes_by_residue facts m (terms_from 0 ms) ≡ true
residue_closes-constant facts m ms may even odd =
    let l = may_weigh-short (may_add_modulo m) facts ms may in
    let named = all_named-weighted (may_add_modulo m) facts facts 0 ms (all_from facts) may in
    let each = each-weighted (is_multiple m) facts ms l even in
    let last : is_multiple m (sum_of facts (terms_from 0 ms)).constant ≡ false = ap (is_multiple m) (constant-sum facts facts 0 ms (all_from facts) l) ∙ odd in
    rw (named, each, last) refl

-- modulo m, by a fact that denies it
pub residue_closes-denied : (facts : List Fact) (m : ℕ) (ms : List ℤ) (row : Row) → Contains facts (NotCong row m) → may_weigh (may_add_modulo m) facts ms ≡ true → ((x : ℕ) → is_multiple m (sum_of_facts (coefficient x) facts ms +ℤ (negsuc 0 *ℤ coefficient_in row.terms x)) ≡ true) → is_multiple m (sum_of_facts constant_of facts ms +ℤ (negsuc 0 *ℤ row.constant)) ≡ true → closes_by_residue facts m (terms_from 0 ms) ≡ true
residue_closes-denied facts m ms row there may even constant =
    let l = may_weigh-short (may_add_modulo m) facts ms may in
    let named = all_named-weighted (may_add_modulo m) facts facts 0 ms (all_from facts) may in
    let sum = sum_of facts (terms_from 0 ms) in
    let both = add_rows sum (times (negsuc 0) row) in
    let at : (x : ℕ) → coefficient_in both.terms x ≡ (sum_of_facts (coefficient x) facts ms +ℤ (negsuc 0 *ℤ coefficient_in row.terms x)) = λ x. coefficient-append sum.terms (multiplied (negsuc 0) row.terms) x ∙ (let h : (coefficient_in sum.terms x +ℤ coefficient_in (multiplied (negsuc 0) row.terms) x) ≡ (sum_of_facts (coefficient x) facts ms +ℤ (negsuc 0 *ℤ coefficient_in row.terms x)) = rw (coefficient-sum x facts facts 0 ms (all_from facts) l, coefficient-times (negsuc 0) row.terms x) refl in h) in
    let each : each_coefficient (is_multiple m) both ≡ true = list_all-from_AllPass (λ t. is_multiple m (coefficient_in both.terms t.at)) both.terms (λ k d n. ap (is_multiple m) (at (get_or both.terms k d).at) ∙ even (get_or both.terms k d).at) in
    let last : is_multiple m both.constant ≡ true = ap (λ z. is_multiple m (z +ℤ (negsuc 0 *ℤ row.constant))) (constant-sum facts facts 0 ms (all_from facts) l) ∙ constant in
    let same : (m == m) ≡ true = eq-eqb m m refl in
    let denied : denies m sum (NotCong row m) ≡ true = rw (same, each, last) refl in
    let found : list_any (denies m sum) facts ≡ true = list_any-from (denies m sum) facts (NotCong row m) there denied in
    rw (named, found) (or_true (each_coefficient (is_multiple m) sum && not (is_multiple m sum.constant)))
  where
    or_true : (b : Bool) → (true && (b || true)) ≡ true
    or_true true = refl
    or_true false = refl
