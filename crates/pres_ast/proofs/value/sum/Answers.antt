use Rattle.std.proofs.Common.{◌≡◌, ◌≤◌, ◌<◌, ◌∙◌, ◌+◌, ◌*◌, ℕ, ℤ, pos, ◌+ℤ◌, length, nat_abs, arith, to_z, of_z, w64, get_or, SFits}
use Rattle.std.proofs.lemmas.Int.{ints, to_z-of_z, fits_signed_from_abs}
use Rattle.std.proofs.lemmas.List.{drop_all, get_or_default}
use mir.Syntax.{w128}
use Rattle.pop_io.specs.declared.names.TheConstants.{VARIABLE_LIMIT}
use Rattle.pres_ast.specs.declared.limits.TheConstants.{COEFFICIENT_LIMIT, PRODUCT_LIMIT}
use Rattle.pres_ast.proofs.Sums.{sum_step}
use Rattle.pres_ast.proofs.value.sum.Goals as goal
use Rattle.base_laws.proofs.Numbers.{size-add}

coef_fits : (a : ℤ) → nat_abs a ≤ COEFFICIENT_LIMIT → SFits w64 a
coef_fits a small = fits_signed_from_abs w64 a (omega arith)

product_fits : (a : ℤ) → nat_abs a ≤ PRODUCT_LIMIT → SFits w128 a
product_fits a small = fits_signed_from_abs w128 a (omega arith)

more : (i n : ℕ) (a b : ℤ) → i < n → n ≤ VARIABLE_LIMIT → nat_abs a ≤ i * PRODUCT_LIMIT → nat_abs b ≤ PRODUCT_LIMIT
    → SFits w128 (a +ℤ b) × (nat_abs (a +ℤ b) ≤ (i + 1) * PRODUCT_LIMIT)
more i n a b l few before here =
    let size : nat_abs (a +ℤ b) ≤ (i + 1) * PRODUCT_LIMIT = omega (arith, size-add a b) in
    (fits_signed_from_abs w128 (a +ℤ b) (omega (arith, size)), size)

pub product-total-requires : goal.product-total-requires
product-total-requires c =
    let a = get_or c.args.coefs.now c.loop-i.i (pos 0) in
    let small = c.requires.coefs.1 c.loop-i.i (pos 0) c.loop-i-test.true in
    rw (to_z-of_z w64 a (coef_fits a small)) small

module _ (c : goal.After-product-total) where
  within : c.loop-i.i < length c.args.counts.now
  within = rw (← c.requires.coefs.0) c.loop-i-test.true

  grown : SFits w128 (to_z w128 c.loop-i.total-bits +ℤ c.product-total.result)
      × (nat_abs (to_z w128 c.loop-i.total-bits +ℤ c.product-total.result) ≤ (c.loop-i.i + 1) * PRODUCT_LIMIT)
  grown = more c.loop-i.i (length c.args.counts.now) (to_z w128 c.loop-i.total-bits) c.product-total.result within c.requires.few c.loop-i.invariant.size c.product-total.ensures.size

  stored : to_z w128 (of_z w128 c.product-total.result) ≡ c.product-total.result
  stored = to_z-of_z w128 c.product-total.result (product_fits c.product-total.result c.product-total.ensures.size)

  total : to_z w128 (of_z w128 (to_z w128 c.loop-i.total-bits +ℤ to_z w128 (of_z w128 c.product-total.result)))
      ≡ to_z w128 c.loop-i.total-bits +ℤ c.product-total.result
  total = rw stored (to_z-of_z w128 (to_z w128 c.loop-i.total-bits +ℤ c.product-total.result) grown.0)

pub overflow_add-total : goal.overflow_add-total
overflow_add-total c = rw (stored c) (grown c).0

pub loop-i-preserved : goal.loop-i-preserved
loop-i-preserved c =
    let i = c.loop-i.i in
    let a = get_or c.args.coefs.now i (pos 0) in
    let n = get_or c.args.counts.now i 0 in
    let small = c.requires.coefs.1 i (pos 0) c.loop-i-test.true in
    record {
      sum = rw (total c, c.product-total.ensures.value, to_z-of_z w64 a (coef_fits a small))
          (sum_step (to_z w128 c.loop-i.total-bits) c.args.coefs.now c.args.counts.now i a n c.loop-i-test.true (within c)
          (get_or_default c.args.coefs.now i (pos 0) a c.loop-i-test.true) (get_or_default c.args.counts.now i 0 n (within c))
          ∙ c.loop-i.invariant.sum);
      size = rw (total c) (grown c).1;
    }

pub returns-clause-value : goal.returns-clause-value
returns-clause-value c =
    let whole = rw (drop_all c.loop-i.i c.args.coefs.now c.loop-i-test.false) at c.loop-i.invariant.sum in
    omega (arith, ints, whole)

pub returns-clause-size : goal.returns-clause-size
returns-clause-size c = omega arith
