use Rattle.std.proofs.Common.{◌≡◌, ◌≤◌, ◌^◌, ◌*ℤ◌, ℤ, pos, negsuc, nat_abs, arith, refl, to_z, of_z, w64, lit<, SFits, FitsSigned}
use Rattle.std.proofs.lemmas.Int.{to_z-of_z, fits_signed_mul, unsigned_abs-mul}
use Rattle.std.proofs.lemmas.Nat.{mul-le}
use mir.Syntax.{w128}
use Rattle.cert_base.specs.declared.limits.TheConstants.{SIZE_LIMIT}
use Rattle.cert_linear.proofs.sum.product.Goals as goal

-- the factors, as the code has them
factors : (a b r s : ℤ) → SFits w64 a → SFits w64 b → SFits w128 r → SFits w128 s → r ≡ to_z w64 (of_z w64 a) → s ≡ to_z w64 (of_z w64 b)
    → to_z w128 (of_z w128 r) *ℤ to_z w128 (of_z w128 s) ≡ a *ℤ b
factors a b r s fa fb fr fs e f = rw (to_z-of_z w128 r fr, to_z-of_z w128 s fs, e, to_z-of_z w64 a fa, f, to_z-of_z w64 b fb) refl

word_size : (b : ℤ) → SFits w64 b → nat_abs b ≤ 2 ^ 63
word_size (pos n) fits = let h = fits.sfits in omega (arith, h)
word_size (negsuc n) fits = let h = fits.sfits in omega (arith, h)

module _ (c : goal.After-from-2) where
  whole : to_z w128 (of_z w128 c.from.result) *ℤ to_z w128 (of_z w128 c.from-2.result) ≡ c.args.a *ℤ c.args.b
  whole = factors c.args.a c.args.b c.from.result c.from-2.result c.ranges.a c.ranges.b (record { sfits = c.from.type_inv }) (record { sfits = c.from-2.type_inv }) c.from.ensures c.from-2.ensures

  product_fits : FitsSigned w128 (c.args.a *ℤ c.args.b)
  product_fits = fits_signed_mul w128 c.args.a c.args.b SIZE_LIMIT (2 ^ 63) c.requires (word_size c.args.b c.ranges.b) (lit< tt)

  stored : to_z w128 (of_z w128 (to_z w128 (of_z w128 c.from.result) *ℤ to_z w128 (of_z w128 c.from-2.result))) ≡ c.args.a *ℤ c.args.b
  stored = rw whole (to_z-of_z w128 (c.args.a *ℤ c.args.b) product_fits)

pub overflow_mul-result : goal.overflow_mul-result
overflow_mul-result c = rw (whole c) (product_fits c)

pub returns-clause-value : goal.returns-clause-value
returns-clause-value c = stored c

pub returns-clause-size : goal.returns-clause-size
returns-clause-size c =
    rw (stored c, unsigned_abs-mul c.args.a c.args.b)
    (mul-le (nat_abs c.args.a) (nat_abs c.args.b) SIZE_LIMIT (2 ^ 63) c.requires (word_size c.args.b c.ranges.b))
