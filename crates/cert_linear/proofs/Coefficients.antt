-- The coefficients of a row whose terms are entered one by one, and of a sum of rows.
use Rattle.std.proofs.Common.{◌≡◌, ◌≢◌, ◌⊎◌, inl, inr, ℕ, zero, suc, ◌+◌, ◌<◌, ◌≤◌, true, false, List, [], ◌∷◌, length, get_or, take, add-one, refl, ap, sym, ◌∙◌, arith}
use Rattle.std.specs.Prelude.{ℤ, pos, negsuc, ◌+ℤ◌, ◌*ℤ◌, ◌==◌, if◌then◌else◌, nat_abs, slice_get}
use Rattle.std.proofs.lemmas.Int.{ints, to_z-of_z}
use mir.Val.{SFits, of_z, to_z}
use mir.Syntax.{w128}
use Rattle.std.proofs.lemmas.List.{take_all}
use Rattle.std.proofs.lemmas.Bool.Decides.{eqb_tells}
use Rattle.cert_base.specs.declared.fact.Term.{Term}
use Rattle.cert_base.specs.declared.fact.Row.{Row}
use Rattle.cert_base.specs.declared.fact.Fact.{Fact}
use Rattle.cert_base.specs.ClosingTests.{times, add_rows, coefficient_in, scaled, sum_of}
use Rattle.cert_linear.specs.declared.sum.Sum.{Sum}
use Rattle.cert_linear.specs.Conditions.{AreAscending}
use Rattle.cert_linear.specs.Sums.{coefficient_of, IsSum, IsPlus, IsSame, IsSumWithin}
use Rattle.cert_base.proofs.WeightedSums.{multiplied, coefficient-append, coefficient-times}
use Rattle.base_laws.proofs.Numbers.{size-add}
use Rattle.cert_linear.specs.declared.sum.TheConstants.{PRODUCT_LIMIT, ROOM_LIMIT, ENTER_LIMIT, REST_LIMIT, ENTRY_LIMIT}

-- what a term brings to the coefficient of a variable
abbrev pub of_term : ℕ → ℤ → ℕ → ℤ
of_term variable by q = if variable == q then by else pos 0

more_at : (a : ℤ) (ts : List Term) (k : ℕ) (d : Term) → k < length ts → (q : ℕ) → coefficient_in (multiplied a (take (suc k) ts)) q ≡ (coefficient_in (multiplied a (take k ts)) q +ℤ of_term (get_or ts k d).at (a *ℤ (get_or ts k d).by) q)
more_at a [] k d l q = absurd (omega arith)
more_at a (t ∷ ts) zero d l q = omega (arith, ints)
more_at a (t ∷ ts) (suc k) d l q = let e = more_at a ts k d (omega arith) q in omega (arith, ints, e)

pub coefficient-more : (a : ℤ) (ts : List Term) (k : ℕ) (d : Term) → k < length ts → (q : ℕ) → coefficient_in (multiplied a (take (k + 1) ts)) q ≡ (coefficient_in (multiplied a (take k ts)) q +ℤ of_term (get_or ts k d).at (a *ℤ (get_or ts k d).by) q)
coefficient-more a ts k d l q = rw (add-one k) (more_at a ts k d l q)

-- the terms before this one are of other variables
pub coefficient-before : (a : ℤ) (ts : List Term) (k : ℕ) (d : Term) → AreAscending ts → k < length ts → coefficient_in (multiplied a (take k ts)) (get_or ts k d).at ≡ pos 0
coefficient-before a [] k d up l = absurd (omega arith)
coefficient-before a (t ∷ ts) zero d up l = refl
coefficient-before a (t ∷ ts) (suc k) d up l =
    let below : t.at < (get_or ts k d).at = up 0 (suc k) d (omega arith) l in
    let rest = coefficient-before a ts k d (λ i j e p q. up (suc i) (suc j) e (omega arith) (omega arith)) (omega arith) in
    other (eqb_tells t.at (get_or ts k d).at) below rest
  where
    other : ((t.at == (get_or ts k d).at) ≡ true) × (t.at ≡ (get_or ts k d).at) ⊎ ((t.at == (get_or ts k d).at) ≡ false) × (t.at ≢ (get_or ts k d).at) → t.at < (get_or ts k d).at → coefficient_in (multiplied a (take k ts)) (get_or ts k d).at ≡ pos 0 → coefficient_in (multiplied a (t ∷ take k ts)) (get_or ts k d).at ≡ pos 0
    other (inl h) below rest = absurd (omega (arith, h.1))
    other (inr h) below rest = rw (h.0, rest) refl

-- a sum plus a row is the sum of both rows
pub plus_row : (row other : Row) (sum more : Sum) → IsSum row sum → IsPlus other sum more → IsSum (add_rows row other) more
plus_row row other sum more is plus = record {
  terms = λ q. plus.terms q ∙ ap (λ a. a +ℤ coefficient_in other.terms q) (is.terms q) ∙ sym (coefficient-append row.terms other.terms q);
  constant = plus.constant ∙ ap (λ a. a +ℤ other.constant) is.constant;
}

-- one more term names one more fact
abbrev of_fact : List Fact → Term → Row
of_fact facts t = scaled t.by (slice_get facts t.at)

more_terms : (facts : List Fact) (ts : List Term) (k : ℕ) (d : Term) → k < length ts → (q : ℕ) → coefficient_in (sum_of facts (take (suc k) ts)).terms q ≡ (coefficient_in (sum_of facts (take k ts)).terms q +ℤ coefficient_in (of_fact facts (get_or ts k d)).terms q)
more_terms facts [] k d l q = absurd (omega arith)
more_terms facts (t ∷ ts) zero d l q =
    let first = coefficient-append (of_fact facts t).terms [] q in omega (arith, ints, first)
more_terms facts (t ∷ ts) (suc k) d l q =
    let e = more_terms facts ts k d (omega arith) q in
    let first = coefficient-append (of_fact facts t).terms (sum_of facts (take (suc k) ts)).terms q in
    let second = coefficient-append (of_fact facts t).terms (sum_of facts (take k ts)).terms q in
    omega (arith, ints, e, first, second)

more_constant : (facts : List Fact) (ts : List Term) (k : ℕ) (d : Term) → k < length ts → (sum_of facts (take (suc k) ts)).constant ≡ ((sum_of facts (take k ts)).constant +ℤ (of_fact facts (get_or ts k d)).constant)
more_constant facts [] k d l = absurd (omega arith)
more_constant facts (t ∷ ts) zero d l = omega (arith, ints)
more_constant facts (t ∷ ts) (suc k) d l =
    let e = more_constant facts ts k d (omega arith) in omega (arith, ints, e)

-- the sum of k named facts, plus the next one
pub sum_step : (facts : List Fact) (ts : List Term) (k : ℕ) (d : Term) (sum more : Sum) → k < length ts → IsSum (sum_of facts (take k ts)) sum → IsPlus (scaled (get_or ts k d).by (slice_get facts (get_or ts k d).at)) sum more → IsSum (sum_of facts (take (k + 1) ts)) more
sum_step facts ts k d sum more l is plus =
    rw (add-one k)
    (record {
      terms = λ q. plus.terms q ∙ ap (λ a. a +ℤ coefficient_in (of_fact facts (get_or ts k d)).terms q) (is.terms q) ∙ sym (more_terms facts ts k d l q);
      constant = plus.constant ∙ ap (λ a. a +ℤ (of_fact facts (get_or ts k d)).constant) is.constant ∙ sym (more_constant facts ts k d l);
    })

-- ---- terms that are entered one by one

pub record IsEntered (a : ℤ) (entered : List Term) (sum more : Sum) : Type 0 where
  pub terms : (q : ℕ) → coefficient_of more q ≡ (coefficient_of sum q +ℤ coefficient_in (multiplied a entered) q)
  pub constant : more.constant ≡ sum.constant
  pub size : (size : ℕ) → IsSumWithin size sum → (q : ℕ) → nat_abs (coefficient_of more q) ≤ size + PRODUCT_LIMIT

-- one more term is entered
pub entered_more : (a : ℤ) (ts : List Term) (k : ℕ) (d : Term) (sum mid more : Sum) → AreAscending ts → k < length ts → nat_abs (a *ℤ (get_or ts k d).by) ≤ PRODUCT_LIMIT → IsEntered a (take k ts) sum mid → ((q : ℕ) → coefficient_of more q ≡ (coefficient_of mid q +ℤ of_term (get_or ts k d).at (a *ℤ (get_or ts k d).by) q)) → more.constant ≡ mid.constant → IsEntered a (take (k + 1) ts) sum more
entered_more a ts k d sum mid more up l small is step same = record {
  terms = λ q. let e = coefficient-more a ts k d l q in let f = step q in let g = is.terms q in omega (arith, ints, e, f, g);
  constant = same ∙ is.constant;
  size = λ size within q. size_at q size within (eqb_tells (get_or ts k d).at q);
}
  where
    size_at : (q size : ℕ) → IsSumWithin size sum → (((get_or ts k d).at == q) ≡ true) × ((get_or ts k d).at ≡ q) ⊎ (((get_or ts k d).at == q) ≡ false) × ((get_or ts k d).at ≢ q) → nat_abs (coefficient_of more q) ≤ size + PRODUCT_LIMIT
    size_at q size within (inl h) =
        let before = coefficient-before a ts k d up l in
        let there : coefficient_in (multiplied a (take k ts)) q ≡ pos 0 = rw (← h.1) before in
        let mid_is = is.terms q in
        let term_is : of_term (get_or ts k d).at (a *ℤ (get_or ts k d).by) q ≡ (a *ℤ (get_or ts k d).by) = rw h.0 refl in
        let f = step q in
        let whole : coefficient_of more q ≡ (coefficient_of sum q +ℤ (a *ℤ (get_or ts k d).by)) = omega (arith, ints, there, mid_is, term_is, f) in
        let bound = size-add (coefficient_of sum q) (a *ℤ (get_or ts k d).by) in
        let old = within.terms q in
        rw whole (omega (arith, bound, old, small))
    size_at q size within (inr h) =
        let term_is : of_term (get_or ts k d).at (a *ℤ (get_or ts k d).by) q ≡ pos 0 = rw h.0 refl in
        let f = step q in
        let whole : coefficient_of more q ≡ coefficient_of mid q = omega (arith, ints, term_is, f) in
        rw whole (is.size size within q)

pub entered_step : (a : ℤ) (ts : List Term) (k : ℕ) (d : Term) (sum mid more : Sum) (by : ℤ) → AreAscending ts → k < length ts → by ≡ (a *ℤ (get_or ts k d).by) → nat_abs by ≤ PRODUCT_LIMIT → IsEntered a (take k ts) sum mid → ((q : ℕ) → coefficient_of more q ≡ (coefficient_of mid q +ℤ of_term (get_or ts k d).at by q)) → more.constant ≡ mid.constant → IsEntered a (take (k + 1) ts) sum more
entered_step a ts k d sum mid more by up l same small is step constant =
    entered_more a ts k d sum mid more up l (rw (← same) small) is (λ q. step q ∙ ap (λ z. coefficient_of mid q +ℤ of_term (get_or ts k d).at z q) same) constant

fits_small : (z : ℤ) → nat_abs z ≤ REST_LIMIT → SFits w128 z
fits_small (pos n) l = record { sfits = omega arith }
fits_small (negsuc n) l = record { sfits = omega arith }

pub sum_fits : (x y : ℤ) → nat_abs x ≤ ROOM_LIMIT → nat_abs y ≤ PRODUCT_LIMIT → to_z w128 (of_z w128 (to_z w128 (of_z w128 x) +ℤ to_z w128 (of_z w128 y))) ≡ (x +ℤ y)
sum_fits x y l m =
    let bound = size-add x y in
    let both = to_z-of_z w128 (x +ℤ y) (fits_small (x +ℤ y) (omega (arith, bound))) in
    rw (to_z-of_z w128 x (fits_small x (omega arith)), to_z-of_z w128 y (fits_small y (omega arith))) both

pub rest_fits : (x y : ℤ) → nat_abs x ≤ ENTER_LIMIT + ENTRY_LIMIT → nat_abs y ≤ PRODUCT_LIMIT → to_z w128 (of_z w128 (to_z w128 (of_z w128 x) +ℤ to_z w128 (of_z w128 y))) ≡ (x +ℤ y)
rest_fits x y l m =
    let bound = size-add x y in
    let both = to_z-of_z w128 (x +ℤ y) (fits_small (x +ℤ y) (omega (arith, bound))) in
    rw (to_z-of_z w128 x (fits_small x (omega arith)), to_z-of_z w128 y (fits_small y (omega arith))) both

pub rest_in_range : (x y : ℤ) → nat_abs x ≤ ENTER_LIMIT + ENTRY_LIMIT → nat_abs y ≤ PRODUCT_LIMIT → SFits w128 (to_z w128 (of_z w128 x) +ℤ to_z w128 (of_z w128 y))
rest_in_range x y l m =
    let bound = size-add x y in
    rw (to_z-of_z w128 x (fits_small x (omega arith)), to_z-of_z w128 y (fits_small y (omega arith))) (fits_small (x +ℤ y) (omega (arith, bound)))

-- all terms of a row are entered, and its constant
pub entered_all : (a : ℤ) (row : Row) (sum mid more : Sum) (k : ℕ) → length row.terms ≤ k → IsEntered a (take k row.terms) sum mid → ((q : ℕ) → coefficient_of more q ≡ coefficient_of mid q) → more.constant ≡ (mid.constant +ℤ (a *ℤ row.constant)) → IsPlus (times a row) sum more
entered_all a row sum mid more k l is same constant = record {
  terms = λ q. same q ∙ is.terms q ∙ ap (λ ts. coefficient_of sum q +ℤ coefficient_in (multiplied a ts) q) (take_all k row.terms l);
  constant = constant ∙ ap (λ z. z +ℤ (a *ℤ row.constant)) is.constant;
}

pub entered_size : (a : ℤ) (entered : List Term) (sum mid more : Sum) (by : ℤ) → IsEntered a entered sum mid → ((q : ℕ) → coefficient_of more q ≡ coefficient_of mid q) → more.constant ≡ (mid.constant +ℤ by) → nat_abs by ≤ PRODUCT_LIMIT → (size : ℕ) → IsSumWithin size sum → IsSumWithin (size + PRODUCT_LIMIT) more
entered_size a entered sum mid more by is same constant small size within = record {
  terms = λ q. rw (same q) (is.size size within q);
  constant = let bound = size-add mid.constant by in let e = is.constant in let f = within.constant in rw constant (omega (arith, bound, small, ap nat_abs e, f));
}

-- a row taken away and added again
pub added_back : (row : Row) (sum mid more : Sum) → IsPlus (times (negsuc 0) row) sum mid → IsPlus (times (pos 1) row) mid more → IsSame sum more
added_back row sum mid more less plus = record {
  terms = λ q. let e = less.terms q in let f = plus.terms q in let g = coefficient-times (negsuc 0) row.terms q in let h = coefficient-times (pos 1) row.terms q in omega (arith, ints, e, f, g, h);
  constant = let e = less.constant in let f = plus.constant in omega (arith, ints, e, f);
}

pub same_sum : (row : Row) (sum other : Sum) → IsSame sum other → IsSum row sum → IsSum row other
same_sum row sum other same is = record {
  terms = λ q. same.terms q ∙ is.terms q;
  constant = same.constant ∙ is.constant;
}

pub same_size : (size : ℕ) (sum other : Sum) → IsSame sum other → IsSumWithin size sum → IsSumWithin size other
same_size size sum other same is = record {
  terms = λ q. rw (same.terms q) (is.terms q);
  constant = rw same.constant is.constant;
}

pub same_same : (sum other third : Sum) → IsSame sum other → IsSame other third → IsSame sum third
same_same sum other third e f = record {
  terms = λ q. f.terms q ∙ e.terms q;
  constant = f.constant ∙ e.constant;
}

pub wider : (size more : ℕ) (sum : Sum) → size ≤ more → IsSumWithin size sum → IsSumWithin more sum
wider size more sum l is = record {
  terms = λ q. let h = is.terms q in omega arith;
  constant = let h = is.constant in omega arith;
}
