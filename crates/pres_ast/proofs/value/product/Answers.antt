use Rattle.std.proofs.Common.{◌≡◌, ◌≤◌, ◌<◌, ◌^◌, ◌*ℤ◌, ℤ, pos, nat_abs, ℕ, arith, FitsSigned, refl, to_z, of_z, w64, lit<}
use Rattle.std.proofs.lemmas.Int.{to_z-of_z, fits_signed_mul, unsigned_abs-mul}
use Rattle.std.proofs.lemmas.Nat.{mul-le}
use mir.Syntax.{w128}
use mir.Val.{SFits}
use Rattle.pres_ast.proofs.value.product.Goals as goal
use Rattle.pres_ast.specs.declared.limits.TheConstants.{PRODUCT_LIMIT}

-- the factors, as the code has them
factors : (a r s : ℤ) (n : ℕ) → SFits w64 a → SFits w128 r → SFits w128 s → r ≡ to_z w64 (of_z w64 a) → s ≡ pos n
    → to_z w128 (of_z w128 r) *ℤ to_z w128 (of_z w128 s) ≡ a *ℤ pos n
factors a r s n fa fr fs e f = rw (to_z-of_z w128 r fr, to_z-of_z w128 s fs, e, to_z-of_z w64 a fa, f) refl

fits : (a : ℤ) (n : ℕ) → nat_abs a ≤ 2 ^ 31 → n < 2 ^ 64 → FitsSigned w128 (a *ℤ pos n)
fits a n small below = fits_signed_mul w128 a (pos n) (2 ^ 31) (2 ^ 64) small (omega arith) (lit< tt)

size : (a : ℤ) (n : ℕ) → nat_abs a ≤ 2 ^ 31 → n < 2 ^ 64 → nat_abs (a *ℤ pos n) ≤ PRODUCT_LIMIT
size a n small below = rw (unsigned_abs-mul a (pos n)) (mul-le (nat_abs a) n (2 ^ 31) (2 ^ 64) small (omega arith))

module _ (c : goal.After-from-2) where
  whole : to_z w128 (of_z w128 c.from.result) *ℤ to_z w128 (of_z w128 c.from-2.result) ≡ c.args.coef *ℤ pos c.args.count
  whole = factors c.args.coef c.from.result c.from-2.result c.args.count c.ranges.coef (record { sfits = c.from.type_inv }) (record { sfits = c.from-2.type_inv }) c.from.ensures c.from-2.ensures

  product_fits : FitsSigned w128 (c.args.coef *ℤ pos c.args.count)
  product_fits = fits c.args.coef c.args.count c.requires c.ranges.count.fits

  stored : to_z w128 (of_z w128 (to_z w128 (of_z w128 c.from.result) *ℤ to_z w128 (of_z w128 c.from-2.result))) ≡ c.args.coef *ℤ pos c.args.count
  stored = rw whole (to_z-of_z w128 (c.args.coef *ℤ pos c.args.count) product_fits)

pub overflow_mul-result : goal.overflow_mul-result
overflow_mul-result c = rw (whole c) (product_fits c)

pub returns-clause-value : goal.returns-clause-value
returns-clause-value c = stored c

pub returns-clause-size : goal.returns-clause-size
returns-clause-size c = rw (stored c) (size c.args.coef c.args.count c.requires c.ranges.count.fits)
