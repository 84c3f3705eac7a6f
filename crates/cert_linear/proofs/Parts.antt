-- Sums of facts in two parts, and facts that stay.
use Rattle.std.proofs.Common.{◌≡◌, ℕ, zero, suc, ◌+◌, ◌<◌, ◌≤◌, min, Bool, true, false, not, cond, ◌&&◌, ◌⊎◌, inl, inr, filter, List, [], ◌∷◌, ◌++◌, length, take, get_or, refl, ap, sym, ◌∙◌, subst, arith, int_eq}
use Rattle.std.specs.Prelude.{pos, negsuc, ◌+ℤ◌, ◌==◌, int_le, nat_abs, All, slice_get, None}
use Rattle.std.specs.List.{list_all}
use Rattle.std.proofs.lemmas.Int.{ints}
use Rattle.std.proofs.lemmas.List.{length-append, length-take}
use Rattle.std.proofs.lemmas.List.Filters.{length-filter_both}
use Rattle.std.proofs.lemmas.List.Elements.{All-filter}
use Rattle.std.proofs.lemmas.Bool.{eq-eqb, eqb-true, ltb-true}
use Rattle.std.proofs.lemmas.Bool.Decides.{Decides-int_eq}
use Rattle.pop_leaf.proofs.Reactions.{and_left, and_right}
use Rattle.cert_base.specs.declared.limits.TheConstants.{FACT_LIMIT, SIZE_LIMIT}
use Rattle.cert_base.specs.declared.fact.Term.{Term}
use Rattle.cert_base.specs.declared.fact.Row.{Row}
use Rattle.cert_base.specs.declared.fact.Fact.{Fact}
use Rattle.cert_base.specs.ClosingTests.{scaled, sum_of, coefficient_in, each_coefficient, all_named, may_add, may_have, closes_by_sum}
use Rattle.cert_linear.specs.declared.sum.Sum.{Sum}
use Rattle.cert_linear.specs.declared.tally.Tally.{Tally}
use Rattle.cert_linear.specs.Sums.{IsSum, AreSum, SumsUp}
use Rattle.cert_linear.specs.Conditions.{AreMultipliers}
use Rattle.cert_linear.specs.Kept.{IsKept, Keeps, leads}
use Rattle.base_laws.proofs.Lists.{all_filtered, at_front}
use Rattle.cert_base.proofs.WeightedSums.{coefficient-append}

-- the sum of one term more, in one of two parts
term-more : (facts : List Fact) (t : Term) (b : Bool) (us vs : List Term) (q : ℕ) → (coefficient_in (sum_of facts (cond b (t ∷ us) us)).terms q +ℤ coefficient_in (sum_of facts (cond (not b) (t ∷ vs) vs)).terms q) ≡ (coefficient_in (scaled t.by (slice_get facts t.at)).terms q +ℤ (coefficient_in (sum_of facts us).terms q +ℤ coefficient_in (sum_of facts vs).terms q))
term-more facts t true us vs q =
    let f = coefficient-append (scaled t.by (slice_get facts t.at)).terms (sum_of facts us).terms q in omega (arith, ints, f)
term-more facts t false us vs q =
    let f = coefficient-append (scaled t.by (slice_get facts t.at)).terms (sum_of facts vs).terms q in omega (arith, ints, f)

constant-more : (facts : List Fact) (t : Term) (b : Bool) (us vs : List Term) → ((sum_of facts (cond b (t ∷ us) us)).constant +ℤ (sum_of facts (cond (not b) (t ∷ vs) vs)).constant) ≡ ((scaled t.by (slice_get facts t.at)).constant +ℤ ((sum_of facts us).constant +ℤ (sum_of facts vs).constant))
constant-more facts t true us vs = omega (arith, ints)
constant-more facts t false us vs = omega (arith, ints)

terms-parts : (facts : List Fact) (p : Term → Bool) (ts : List Term) (q : ℕ) → coefficient_in (sum_of facts ts).terms q ≡ (coefficient_in (sum_of facts (filter p ts)).terms q +ℤ coefficient_in (sum_of facts (filter (λ t. not (p t)) ts)).terms q)
terms-parts facts p [] q = omega (arith, ints)
terms-parts facts p (t ∷ ts) q =
    let e = terms-parts facts p ts q in
    let f = coefficient-append (scaled t.by (slice_get facts t.at)).terms (sum_of facts ts).terms q in
    let g = term-more facts t (p t) (filter p ts) (filter (λ t. not (p t)) ts) q in
    omega (arith, ints, e, f, g)

constant-parts : (facts : List Fact) (p : Term → Bool) (ts : List Term) → (sum_of facts ts).constant ≡ ((sum_of facts (filter p ts)).constant +ℤ (sum_of facts (filter (λ t. not (p t)) ts)).constant)
constant-parts facts p [] = omega (arith, ints)
constant-parts facts p (t ∷ ts) =
    let e = constant-parts facts p ts in
    let g = constant-more facts t (p t) (filter p ts) (filter (λ t. not (p t)) ts) in
    omega (arith, ints, e, g)

-- the sums of the terms that pass a test and of the others are the whole sum
parts_sum : (facts : List Fact) (p : Term → Bool) (ts : List Term) (lead rest : Sum) → IsSum (sum_of facts (filter p ts)) lead → IsSum (sum_of facts (filter (λ t. not (p t)) ts)) rest → AreSum (sum_of facts ts) rest lead
parts_sum facts p ts lead rest is other = record {
  terms = λ q. let e = terms-parts facts p ts q in let f = is.terms q in let g = other.terms q in omega (arith, ints, e, f, g);
  constant = let e = constant-parts facts p ts in let f = is.constant in let g = other.constant in omega (arith, ints, e, f, g);
}

first : {all : Bool} (here a b : Bool) → all ≡ (a && b) → (here && all) ≡ ((here && a) && b)
first true a b e = e
first false a b e = refl

second : {all : Bool} (here a b : Bool) → all ≡ (a && b) → (here && all) ≡ (a && (here && b))
second true a b e = e
second false true b e = refl
second false false b e = refl

-- a test passes for all terms exactly when it does for both parts
named-parts : (f p : Term → Bool) (ts : List Term) → list_all f ts ≡ (list_all f (filter p ts) && list_all f (filter (λ t. not (p t)) ts))
named-parts f p [] = refl
named-parts f p (t ∷ ts) = go (p t) (named-parts f p ts)
  where
    go : (b : Bool) → list_all f ts ≡ (list_all f (filter p ts) && list_all f (filter (λ t. not (p t)) ts)) → (f t && list_all f ts) ≡ (list_all f (cond b (t ∷ filter p ts) (filter p ts)) && list_all f (cond (not b) (t ∷ filter (λ t. not (p t)) ts) (filter (λ t. not (p t)) ts)))
    go true e = first (f t) (list_all f (filter p ts)) (list_all f (filter (λ t. not (p t)) ts)) e
    go false e = second (f t) (list_all f (filter p ts)) (list_all f (filter (λ t. not (p t)) ts)) e

sum-same : (stable : ℕ) (facts other : List Fact) → ((n : ℕ) → n < stable → slice_get other n ≡ slice_get facts n) → (ts : List Term) → All (λ t. t.at < stable) ts → sum_of other ts ≡ sum_of facts ts
sum-same stable facts other same [] below = refl
sum-same stable facts other same (t ∷ ts) below =
    let here : slice_get other t.at ≡ slice_get facts t.at = same t.at (below 0 t (omega arith)) in
    let rest = sum-same stable facts other same ts (λ k d l. below (suc k) d (omega (arith, l))) in
    rw (here, rest) refl

named-same : (stable : ℕ) (facts other : List Fact) → ((n : ℕ) → n < stable → slice_get other n ≡ slice_get facts n) → (ts : List Term) → All (λ t. t.at < stable) ts → all_named may_add other ts ≡ all_named may_add facts ts
named-same stable facts other same [] below = refl
named-same stable facts other same (t ∷ ts) below =
    let here : slice_get other t.at ≡ slice_get facts t.at = same t.at (below 0 t (omega arith)) in
    let rest = named-same stable facts other same ts (λ k d l. below (suc k) d (omega (arith, l))) in
    rw (here, rest) refl

-- the kept sum stays right as long as the facts below the number stay
pub kept-same : (stable : ℕ) (facts other : List Fact) (tally : Tally) → ((n : ℕ) → n < stable → slice_get other n ≡ slice_get facts n) → IsKept stable facts tally → IsKept stable other tally
kept-same stable facts other tally same is = record {
  named = is.named;
  may = named-same stable facts other same tally.kept.items is.named ∙ is.may;
  sum = subst (λ row. IsSum row tally.lead) (sym (sum-same stable facts other same tally.kept.items is.named)) is.sum;
  size = is.size;
  positive = is.positive;
  lead = is.lead;
  rest = is.rest;
}

pub keeps_true : (facts : List Fact) (terms : List Term) (tally : Tally) (b : Bool) → b ≡ true → Keeps facts terms tally b → tally.kept.items ≡ terms
keeps_true facts terms tally b e k = subst (Keeps facts terms tally) e k

pub sums_true : (facts : List Fact) (terms : List Term) (sum : Sum) (b : Bool) → b ≡ true → SumsUp None facts terms sum b → (all_named may_add facts terms ≡ true) × IsSum (sum_of facts terms) sum
sums_true facts terms sum b e k =
    let all = subst (SumsUp None facts terms sum) e k in
    (all.0, all.1)

-- the terms close exactly when the sums of both parts do
pub parts_close : (facts : List Fact) (p : Term → Bool) (terms : List Term) (r : Bool) (lead rest : Sum) → all_named may_add facts (filter p terms) ≡ true → all_named may_add facts (filter (λ t. not (p t)) terms) ≡ true → IsSum (sum_of facts (filter p terms)) lead → IsSum (sum_of facts (filter (λ t. not (p t)) terms)) rest → ((row : Row) → AreSum row rest lead → r ≡ (each_coefficient (λ a. int_le a (pos 0)) row && int_le row.constant (negsuc 0))) → r ≡ closes_by_sum facts terms
parts_close facts p terms r lead rest may may_rest is other says =
    let named : all_named may_add facts terms ≡ true = named-parts (λ t. may_have may_add t.by (slice_get facts t.at)) p terms ∙ rw (may, may_rest) refl in
    let sum = sum_of facts terms in
    says sum (parts_sum facts p terms lead rest is other)
    ∙ sym (ap (λ (c : Bool). c && each_coefficient (λ a. int_le a (pos 0)) sum && int_le sum.constant (negsuc 0)) named)

-- they don't close if one part may not be added
pub part_fails : (facts : List Fact) (p : Term → Bool) (terms : List Term) → ((all_named may_add facts (filter p terms) ≡ false) ⊎ (all_named may_add facts (filter (λ t. not (p t)) terms) ≡ false)) → false ≡ closes_by_sum facts terms
part_fails facts p terms fails =
    let sum = sum_of facts terms in
    let test : Term → Bool = λ t. may_have may_add t.by (slice_get facts t.at) in
    sym (ap (λ (c : Bool). c && each_coefficient (λ a. int_le a (pos 0)) sum && int_le sum.constant (negsuc 0)) (named-parts test p terms ∙ none (list_all test (filter p terms)) (list_all test (filter (λ t. not (p t)) terms)) fails))
  where
    none : (a b : Bool) → (a ≡ false) ⊎ (b ≡ false) → (a && b) ≡ false
    none false b e = refl
    none true b (inl e) = cc
    none true b (inr e) = e

-- the terms of a part have their multipliers within the limits
pub part_multipliers : (p : Term → Bool) (terms : List Term) → AreMultipliers terms → AreMultipliers (filter p terms)
part_multipliers p terms are = record {
  few = let all = length-filter_both p (λ t. not (p t)) (λ t. refl) terms in let few = are.few in omega (arith, all, few);
  small = All-filter p (λ t. nat_abs t.by ≤ SIZE_LIMIT) terms are.small;
}

-- the leading terms name facts below the number
pub leads_below : (stable : ℕ) (terms : List Term) → All (λ t. t.at < stable) (filter (leads stable) terms)
leads_below stable terms = all_filtered (leads stable) (λ t. t.at < stable) terms (λ k d l e. ltb-true (get_or terms k d).at stable e)

-- what `==` says of two terms
pub same_term : (a b : Term) → ((a.at == b.at) && int_eq a.by b.by ≡ true → a ≡ b) × (a ≡ b → (a.at == b.at) && int_eq a.by b.by ≡ true)
same_term a b = (both, equal)
  where
    both : (a.at == b.at) && int_eq a.by b.by ≡ true → a ≡ b
    both e =
        let p = eqb-true a.at b.at (and_left (a.at == b.at) (int_eq a.by b.by) e) in
        let q = (Decides-int_eq a.by b.by).0 (and_right (a.at == b.at) (int_eq a.by b.by) e) in
        λ i. record { at = p i; by = q i }

    equal : a ≡ b → (a.at == b.at) && int_eq a.by b.by ≡ true
    equal e =
        let f = eq-eqb a.at b.at (ap (λ (t : Term). t.at) e) in
        let g = (Decides-int_eq a.by b.by).1 (ap (λ (t : Term). t.by) e) in
        rw (f, g) refl

-- ---- facts that come and go

get-take : (facts : List Fact) (k n : ℕ) → n < k → slice_get (take k facts) n ≡ slice_get facts n
get-take facts zero n l = absurd (omega (arith, l))
get-take [] (suc k) n l = refl
get-take (f ∷ facts) (suc k) zero l = refl
get-take (f ∷ facts) (suc k) (suc n) l = get-take facts k n (omega (arith, l))

-- more facts at the end
pub kept_append : (stable : ℕ) (facts more other : List Fact) (tally : Tally) → other ≡ facts ++ more → length facts + length more ≤ FACT_LIMIT → stable ≤ length facts → IsKept stable facts tally → (length other ≤ FACT_LIMIT) × (stable ≤ length other) × IsKept stable other tally
kept_append stable facts more other tally e room l is =
    let len : length other ≡ length facts + length more = ap length e ∙ length-append facts more in (
      omega (arith, len, room),
      omega (arith, len, l),
      kept-same stable facts other tally (λ n m. ap (λ fs. slice_get fs n) e ∙ at_front facts more n (omega (arith, m, l))) is,
    )

pub kept_equal : (stable : ℕ) (facts other : List Fact) (tally : Tally) → other ≡ facts → length facts ≤ FACT_LIMIT → stable ≤ length facts → IsKept stable facts tally → (length other ≤ FACT_LIMIT) × (stable ≤ length other) × IsKept stable other tally
kept_equal stable facts other tally e few l is =
    subst (λ (fs : List Fact). (length fs ≤ FACT_LIMIT) × (stable ≤ length fs) × IsKept stable fs tally) (sym e) (few, l, is)

-- the facts from a number on are cut off
pub kept_cut : (len stable : ℕ) (facts other : List Fact) (tally : Tally) → other ≡ take len facts → stable ≤ len → len ≤ length facts → length facts ≤ FACT_LIMIT → IsKept stable facts tally → (length other ≤ FACT_LIMIT) × (stable ≤ length other) × IsKept stable other tally
kept_cut len stable facts other tally e low within few is =
    let size : length other ≡ min len (length facts) = ap length e ∙ length-take len facts in (
      omega (arith, size, few),
      omega (arith, size, low, within),
      kept-same stable facts other tally (λ n m. ap (λ fs. slice_get fs n) e ∙ get-take facts len n (omega (arith, m, low))) is,
    )
