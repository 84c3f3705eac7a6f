-- If a combination of facts closes, no counts meet them all.
use Rattle.std.proofs.Common.{◌≡◌, true, ◌&&◌, List, [], ◌∷◌, refl, arith}
use Rattle.std.specs.Prelude.{Option, Some, None, ℤ, pos, negsuc, ◌*ℤ◌, ◌≤ℤ◌, int_le, slice_get, All}
use Rattle.std.specs.Int.Signed.{le_z_yes}
use Rattle.std.proofs.Math.IntN.{*ℤ-zero, *ℤ_comm}
use Rattle.std.proofs.lemmas.Float.{T_from_true}
use Rattle.std.proofs.lemmas.Int.{ints}
use Rattle.pop_leaf.proofs.Reactions.{and_left, and_right}
use Rattle.pop_leaf.proofs.Quiet.{All-slice_get}
use Rattle.cert_base.specs.declared.fact.Term.{Term}
use Rattle.cert_base.specs.declared.fact.Row.{Row}
use Rattle.cert_base.specs.declared.fact.Fact.{Fact}
use Rattle.cert_base.specs.declared.fact.Fact.TheVariants.{Ge, Eq, Cong, NotCong, Holds}
use Rattle.cert_base.specs.Valuation.{Valuation, row_value, MeetsFact}
use Rattle.cert_base.specs.ClosingTests.{row_of, times, scaled, sum_of, coefficient_in, each_coefficient, may_have, all_named, may_add, closes_by_sum}
use Rattle.cert_base.proofs.Integers.{mul-pos-le_zero, mul-pos_zero-le}
use Rattle.cert_linear.proofs.RowValues.{row_value-add_rows, row_value-times, total-le_zero, end_of, terms_value-total, each_coefficient-at}

le_from_test : (a b : ℤ) → int_le a b ≡ true → a ≤ℤ b
le_from_test a b e = le_z_yes (T_from_true _ e)

both_zero-le : (a b : ℤ) → pos 0 ≤ℤ a → pos 0 ≤ℤ b → pos 0 ≤ℤ (a *ℤ b)
both_zero-le (pos n) b l m = rw (*ℤ_comm (pos n) b) (mul-pos_zero-le b n m)
both_zero-le (negsuc n) b l m = absurd (omega (arith, ints))

fact_times : (count : Valuation) (a : ℤ) (fact : Fact) → may_add a fact ≡ true → MeetsFact count fact → pos 0 ≤ℤ row_value count (times a (row_of fact))
fact_times count a (Ge row) e m = rw (row_value-times count a row) (both_zero-le a (row_value count row) (le_from_test _ _ e) m)
fact_times count a (Eq row) e m = rw (row_value-times count a row, m, *ℤ-zero a) (omega (arith, ints))
fact_times count a (Cong row n) e m = cc
fact_times count a (NotCong row n) e m = cc
fact_times count a (Holds p b) e m = cc

named_times : (count : Valuation) (facts : List Fact) (t : Term) (o : Option Fact) → slice_get facts t.at ≡ o → may_have may_add t.by o ≡ true → All (MeetsFact count) facts → pos 0 ≤ℤ row_value count (scaled t.by o)
named_times count facts t None h e m = cc
named_times count facts t (Some fact) h e m =
    fact_times count t.by fact e (All-slice_get (MeetsFact count) facts t.at fact m h)

sum_of-zero_le : (count : Valuation) (facts : List Fact) (terms : List Term) → All (MeetsFact count) facts → all_named may_add facts terms ≡ true → pos 0 ≤ℤ row_value count (sum_of facts terms)
sum_of-zero_le count facts [] m e = omega (arith, ints)
sum_of-zero_le count facts (t ∷ terms) m e =
    let first = named_times count facts t (slice_get facts t.at) refl (and_left _ _ e) m in
    let rest = sum_of-zero_le count facts terms m (and_right (may_have may_add t.by (slice_get facts t.at)) _ e) in
    let sum = row_value-add_rows count (scaled t.by (slice_get facts t.at)) (sum_of facts terms) in
    omega (arith, ints, first, rest, sum)

row_value-below_zero : (count : Valuation) (row : Row) → each_coefficient (λ a. int_le a (pos 0)) row ≡ true → int_le row.constant (negsuc 0) ≡ true → row_value count row ≤ℤ negsuc 0
row_value-below_zero count row e f =
    let constant = le_from_test row.constant (negsuc 0) f in
    let value = terms_value-total count row.terms (end_of row.terms) (omega arith) in
    let sum = total-le_zero (λ j. coefficient_in row.terms j *ℤ pos (count j)) (end_of row.terms) (λ j. mul-pos-le_zero (coefficient_in row.terms j) (count j) (le_from_test (coefficient_in row.terms j) (pos 0) (each_coefficient-at (λ a. int_le a (pos 0)) row j refl e))) in
    omega (arith, ints, constant, value, sum)

-- no counts meet facts for which `linear_closes` is true
pub linear_closes-none : (count : Valuation) (facts : List Fact) (terms : List Term) → closes_by_sum facts terms ≡ true → All (MeetsFact count) facts → ⊥
linear_closes-none count facts terms e m =
    let all = all_named may_add facts terms in
    let each = each_coefficient (λ a. int_le a (pos 0)) (sum_of facts terms) in
    let low = int_le (sum_of facts terms).constant (negsuc 0) in
    let above = sum_of-zero_le count facts terms m (and_left all each (and_left (all && each) low e)) in
    let below = row_value-below_zero count (sum_of facts terms) (and_right all each (and_left (all && each) low e)) (and_right (all && each) low e) in
    omega (arith, ints, above, below)
