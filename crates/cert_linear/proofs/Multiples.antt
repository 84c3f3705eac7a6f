-- Multiples of a modulus, and residues that no counts have.
use Rattle.std.proofs.Common.{◌≡◌, inl, inr, ℕ, zero, suc, ◌*◌, ◌/◌, ◌%◌, Bool, true, false, not, ◌&&◌, List, [], ◌∷◌, refl, ap, sym, ◌∙◌, arith}
use Rattle.std.specs.Prelude.{ℤ, pos, negsuc, neg_ℤ, ◌+ℤ◌, ◌*ℤ◌, ◌==◌, nat_abs, slice_get, All, Option, Some, None}
use Rattle.std.specs.List.{list_any}
use Rattle.std.proofs.Math.Nat.{div-add-mod, mul-mod_left}
use Rattle.std.proofs.Math.IntN.{*ℤ-zero, zero-*ℤ, *ℤ_comm}
use Rattle.std.proofs.lemmas.Int.{ints}
use Rattle.std.proofs.lemmas.Bool.{eqb-true, eq-eqb, or_cases}
use Rattle.pop_leaf.proofs.Reactions.{and_left, and_right}
use Rattle.pop_leaf.proofs.Quiet.{All-slice_get}
use Rattle.pres_ast.specs.PredicateValue.{is_multiple}
use Rattle.cert_base.specs.declared.fact.Term.{Term}
use Rattle.cert_base.specs.declared.fact.Row.{Row}
use Rattle.cert_base.specs.declared.fact.Fact.{Fact}
use Rattle.cert_base.specs.declared.fact.Fact.TheVariants.{Ge, Eq, Cong, NotCong, Holds}
use Rattle.cert_base.specs.Valuation.{Valuation, row_value, MeetsFact}
use Rattle.cert_base.specs.ClosingTests.{row_of, times, add_rows, scaled, sum_of, coefficient_in, each_coefficient, may_have, all_named, may_add_modulo, is_zero_row, denies, closes_by_residue}
use Rattle.cert_base.proofs.Integers.{add-mul, mul-mul-pos, divides-zero}
use Rattle.cert_linear.proofs.RowValues.{row_value-add_rows, row_value-times, total, terms_value-total, each_coefficient-at, end_of}
use Rattle.base_laws.proofs.Numbers.{size-neg}

-- z is a whole number times m
abbrev pub Multiple : ℕ → ℤ → Type 0
Multiple m z = (k : ℤ) × (z ≡ (k *ℤ pos m))

size_times : (k : ℤ) (m : ℕ) → nat_abs (k *ℤ pos m) ≡ nat_abs k * m
size_times (pos k) m = refl
size_times (negsuc k) m = size-neg (suc k * m)

pub multiple-divides : (m : ℕ) (z : ℤ) → Multiple m z → is_multiple m z ≡ true
multiple-divides m z h =
    eq-eqb (nat_abs z % m) 0 (ap (λ n. n % m) (ap nat_abs h.1 ∙ size_times h.0 m) ∙ mul-mod_left (nat_abs h.0) m)

negative_times : (n q m : ℕ) → suc n ≡ q * m → negsuc n ≡ (neg_ℤ (pos q) *ℤ pos m)
negative_times n zero m e = absurd (omega (arith, e))
negative_times n (suc q) m e = ap (λ x. neg_ℤ (pos x)) e

divides-multiple_at : (m : ℕ) (z : ℤ) → nat_abs z ≡ (nat_abs z / m) * m → Multiple m z
divides-multiple_at m (pos n) e = (pos (n / m), ap pos e)
divides-multiple_at m (negsuc n) e = (neg_ℤ (pos (suc n / m)), negative_times n (suc n / m) m e)

pub divides-multiple : (m : ℕ) (z : ℤ) → is_multiple m z ≡ true → Multiple m z
divides-multiple m z h =
    let rest : nat_abs z % m ≡ 0 = eqb-true (nat_abs z % m) 0 h in
    let whole = div-add-mod (nat_abs z) m in
    divides-multiple_at m z (omega (arith, rest, whole))

pub multiple-add : (m : ℕ) (y z : ℤ) → Multiple m y → Multiple m z → Multiple m (y +ℤ z)
multiple-add m y z h k = (h.0 +ℤ k.0, rw (h.1, k.1) (sym (add-mul h.0 k.0 (pos m))))

pub multiple-times : (m : ℕ) (a z : ℤ) → Multiple m z → Multiple m (a *ℤ z)
multiple-times m a z h = (a *ℤ h.0, ap (λ y. a *ℤ y) h.1 ∙ sym (mul-mul-pos a h.0 m))

pub multiple-zero : (m : ℕ) → Multiple m (pos 0)
multiple-zero m = (pos 0, sym (zero-*ℤ (pos m)))

-- a multiple less a multiple is a multiple
multiple-less : (m : ℕ) (y z : ℤ) → Multiple m (y +ℤ z) → Multiple m y → Multiple m z
multiple-less m y z h k =
    let minus = multiple-times m (negsuc 0) y k in
    let both = multiple-add m (negsuc 0 *ℤ y) (y +ℤ z) minus h in
    let e : z ≡ ((negsuc 0 *ℤ y) +ℤ (y +ℤ z)) = less y z in
    (both.0, e ∙ both.1)
  where
    less : (y z : ℤ) → z ≡ ((negsuc 0 *ℤ y) +ℤ (y +ℤ z))
    less y z = omega (arith, ints)

total-multiple : (m : ℕ) (f : ℕ → ℤ) (n : ℕ) → ((j : ℕ) → Multiple m (f j)) → Multiple m (total f n)
total-multiple m f zero each = multiple-zero m
total-multiple m f (suc n) each = multiple-add m (f n) (total f n) (each n) (total-multiple m f n each)

-- if all coefficients are multiples, so is the value of the terms
terms-multiple : (count : Valuation) (m : ℕ) (row : Row) → each_coefficient (is_multiple m) row ≡ true → Multiple m (total (λ j. coefficient_in row.terms j *ℤ pos (count j)) (end_of row.terms))
terms-multiple count m row e =
    total-multiple m (λ j. coefficient_in row.terms j *ℤ pos (count j)) (end_of row.terms)
    (λ j. let here = multiple-times m (pos (count j)) (coefficient_in row.terms j) (divides-multiple m (coefficient_in row.terms j) (each_coefficient-at (is_multiple m) row j (divides-zero m) e)) in
    (here.0, *ℤ_comm (coefficient_in row.terms j) (pos (count j)) ∙ here.1))

fact_multiple : (count : Valuation) (m : ℕ) (a : ℤ) (fact : Fact) → may_add_modulo m a fact ≡ true → MeetsFact count fact → Multiple m (row_value count (times a (row_of fact)))
fact_multiple count m a (Ge row) e meets = cc
fact_multiple count m a (Eq row) e meets = (pos 0, row_value-times count a row ∙ ap (λ v. a *ℤ v) meets ∙ *ℤ-zero a ∙ sym (zero-*ℤ (pos m)))
fact_multiple count m a (Cong row n) e meets =
    let same : n ≡ m = eqb-true n m e in
    let here = multiple-times m a (row_value count row) (divides-multiple m (row_value count row) (rw (← same) meets)) in
    (here.0, row_value-times count a row ∙ here.1)
fact_multiple count m a (NotCong row n) e meets = cc
fact_multiple count m a (Holds p b) e meets = cc

named_multiple : (count : Valuation) (m : ℕ) (facts : List Fact) (t : Term) (o : Option Fact) → slice_get facts t.at ≡ o → may_have (may_add_modulo m) t.by o ≡ true → All (MeetsFact count) facts → Multiple m (row_value count (scaled t.by o))
named_multiple count m facts t None h e meets = cc
named_multiple count m facts t (Some fact) h e meets =
    fact_multiple count m t.by fact e (All-slice_get (MeetsFact count) facts t.at fact meets h)

sum_of-multiple : (count : Valuation) (m : ℕ) (facts : List Fact) (terms : List Term) → All (MeetsFact count) facts → all_named (may_add_modulo m) facts terms ≡ true → Multiple m (row_value count (sum_of facts terms))
sum_of-multiple count m facts [] meets e = multiple-zero m
sum_of-multiple count m facts (t ∷ terms) meets e =
    let first = named_multiple count m facts t (slice_get facts t.at) refl (and_left _ _ e) meets in
    let rest = sum_of-multiple count m facts terms meets (and_right (may_have (may_add_modulo m) t.by (slice_get facts t.at)) _ e) in
    let both = multiple-add m _ _ first rest in
    (both.0, row_value-add_rows count (scaled t.by (slice_get facts t.at)) (sum_of facts terms) ∙ both.1)

-- the value of a row whose coefficients are multiples is a multiple exactly when its constant is
constant_multiple : (count : Valuation) (m : ℕ) (row : Row) → each_coefficient (is_multiple m) row ≡ true → Multiple m (row_value count row) → Multiple m row.constant
constant_multiple count m row e h =
    let terms = terms-multiple count m row e in
    let same = terms_value-total count row.terms (end_of row.terms) (omega arith) in
    multiple-less m (total (λ j. coefficient_in row.terms j *ℤ pos (count j)) (end_of row.terms)) row.constant (h.0, ap (λ v. v +ℤ row.constant) (sym same) ∙ h.1) terms

row_multiple : (count : Valuation) (m : ℕ) (row : Row) → is_zero_row m row ≡ true → Multiple m (row_value count row)
row_multiple count m row e =
    let terms = terms-multiple count m row (and_left _ _ e) in
    let same = terms_value-total count row.terms (end_of row.terms) (omega arith) in
    let both = multiple-add m _ row.constant terms (divides-multiple m row.constant (and_right (each_coefficient (is_multiple m) row) _ e)) in
    (both.0, ap (λ v. v +ℤ row.constant) same ∙ both.1)

denied_at : (count : Valuation) (m : ℕ) (sum : Row) (fact : Fact) → Multiple m (row_value count sum) → denies m sum fact ≡ true → MeetsFact count fact → ⊥
denied_at count m sum (Ge row) h e meets = cc
denied_at count m sum (Eq row) h e meets = cc
denied_at count m sum (Cong row n) h e meets = cc
denied_at count m sum (NotCong row n) h e meets =
    let same : n ≡ m = eqb-true n m (and_left _ _ e) in
    let differs = row_multiple count m (add_rows sum (times (negsuc 0) row)) (and_right (n == m) _ e) in
    let is : row_value count (add_rows sum (times (negsuc 0) row)) ≡ (row_value count sum +ℤ (negsuc 0 *ℤ row_value count row)) = row_value-add_rows count sum (times (negsuc 0) row) ∙ ap (λ v. row_value count sum +ℤ v) (row_value-times count (negsuc 0) row) in
    let minus = multiple-less m (row_value count sum) (negsuc 0 *ℤ row_value count row) (differs.0, sym is ∙ differs.1) h in
    let plus = multiple-times m (negsuc 0) (negsuc 0 *ℤ row_value count row) minus in
    let back : row_value count row ≡ (negsuc 0 *ℤ (negsuc 0 *ℤ row_value count row)) = twice (row_value count row) in
    let yes = multiple-divides m (row_value count row) (plus.0, back ∙ plus.1) in
    let no : is_multiple m (row_value count row) ≡ false = rw (← same) meets in
    (let clash : true ≡ false = sym yes ∙ no in cc)
  where
    twice : (z : ℤ) → z ≡ (negsuc 0 *ℤ (negsuc 0 *ℤ z))
    twice z = omega (arith, ints)
denied_at count m sum (Holds p b) h e meets = cc

denied : (count : Valuation) (m : ℕ) (sum : Row) (facts : List Fact) → Multiple m (row_value count sum) → list_any (denies m sum) facts ≡ true → All (MeetsFact count) facts → ⊥
denied count m sum [] h e meets = cc
denied count m sum (fact ∷ facts) h e meets =
    elim (or_cases (denies m sum fact) (list_any (denies m sum) facts) e) [
      | inl here ↦ denied_at count m sum fact h here (meets 0 fact (omega arith))
      | inr rest ↦ denied count m sum facts h rest (λ k d l. meets (suc k) d (omega arith))
    ]

not_true : (b : Bool) → not b ≡ true → b ≡ true → ⊥
not_true true e f = cc
not_true false e f = cc

-- no counts meet facts for which `residue_closes` is true
pub residue_closes-none : (count : Valuation) (facts : List Fact) (m : ℕ) (terms : List Term) → closes_by_residue facts m terms ≡ true → All (MeetsFact count) facts → ⊥
residue_closes-none count facts m terms e meets =
    let sum = sum_of facts terms in
    let by_constant = each_coefficient (is_multiple m) sum && not (is_multiple m sum.constant) in
    let h = sum_of-multiple count m facts terms meets (and_left (all_named (may_add_modulo m) facts terms) _ e) in
    elim (or_cases by_constant (list_any (denies m sum) facts) (and_right (all_named (may_add_modulo m) facts terms) _ e)) [
      | inl here ↦ not_true (is_multiple m sum.constant) (and_right (each_coefficient (is_multiple m) sum) _ here) (multiple-divides m sum.constant (constant_multiple count m sum (and_left _ _ here) h))
      | inr rest ↦ denied count m sum facts h rest meets
    ]
