-- What the states are worth is small.
use Rattle.std.proofs.Common.{◌≡◌, ℕ, zero, suc, ◌+◌, ◌^◌, ◌%◌, ◌<◌, ◌≤◌, List, refl, arith, w64, to_z, of_z, FitsSigned}
use Rattle.std.specs.Prelude.{ℤ, pos, negsuc, neg_ℤ, ◌-ℤ◌, nat_abs}
use Rattle.std.proofs.lemmas.Int.{ints, to_z-of_z, fits_signed_from_abs}
use Rattle.std.proofs.lemmas.Nat.{mod_below}
use Rattle.cert_base.specs.ProofLimits.{IsSmall}
use Rattle.base_laws.proofs.Numbers.{size-neg}
use Rattle.comp_powers_leaf.specs.declared.role.Role.{Role}
use Rattle.comp_powers_leaf.specs.declared.role.Role.TheVariants.{Low, High, Nothing, Piece, Plus, Debtor, Token}
use Rattle.comp_powers_leaf.specs.PowersLeaf.{coefficient_of, owed, worth, IsRole, HasRange}
use Rattle.comp_trees.proofs.Bits.{power-le, some_power}
use Rattle.comp_powers_leaf.proofs.Moves.{chain-most}
use Rattle.comp_powers.specs.PowersProof.{credit}

abs-neg : (a : ℤ) → nat_abs (neg_ℤ a) ≡ nat_abs a
abs-neg (pos zero) = refl
abs-neg (pos (suc n)) = refl
abs-neg (negsuc n) = refl

module _ (coefs : List ℤ) (k : ℕ) (is : HasRange coefs k) where
  pub range-small : 2 ^ k ≤ 1099511627776
  range-small = power-le k 40 is.power

  pub piece-small : (i : ℕ) → i < k → 2 ^ i ≤ 1099511627776
  piece-small i l = let a = power-le i k (omega (arith, l)) in let b = range-small in omega (arith, a, b)

  token-small : (j i : ℕ) → IsRole coefs k (Token j i) → owed k (coefficient_of coefs j) % 2 ^ (i + 1) ≤ 1099511627776
  token-small j i v =
      let chain = chain-most k (coefficient_of coefs j) in
      let less = mod_below (owed k (coefficient_of coefs j)) (2 ^ (i + 1)) (some_power (i + 1)) in
      let a = power-le (i + 1) k (omega (arith, v.1, chain)) in
      let b = range-small in
      omega (arith, less, a, b)

  pub worth-small : (r : Role) → IsRole coefs k r → IsSmall (worth coefs k r)
  worth-small Low v = let a = size-neg (2 ^ k) in let b = range-small in omega (arith, a, b)
  worth-small High v = omega arith
  worth-small (Nothing b) v = omega arith
  worth-small (Piece i b) v = piece-small i v
  worth-small Plus v = range-small
  worth-small (Debtor j) v = let a = is.within j v.0 in let b = range-small in omega (arith, a, b)
  worth-small (Token j i) v = token-small j i v

  pub owes-small : (r : Role) → IsRole coefs k r → IsSmall (neg_ℤ (worth coefs k r))
  owes-small r v = let a = abs-neg (worth coefs k r) in let b = worth-small r v in omega (arith, a, b)

  pub credit-small : (r : Role) → IsRole coefs k r → IsSmall (neg_ℤ (credit coefs k r))
  credit-small r v = let a = abs-neg (credit coefs k r) in let b = of r v in omega (arith, a, b)
    where
      of : (r : Role) → IsRole coefs k r → IsSmall (credit coefs k r)
      of Low v = omega arith
      of High v = omega arith
      of (Nothing b) v = omega arith
      of (Piece i b) v = piece-small i v
      of Plus v = range-small
      of (Debtor j) v = omega arith
      of (Token j i) v = token-small j i v

-- a small number, as the code turns it
pub turned_fits : (a : ℤ) → IsSmall a → FitsSigned w64 (neg_ℤ a)
turned_fits a small = fits_signed_from_abs w64 (neg_ℤ a) (omega (arith, ints))

pub turned_is : (a : ℤ) → IsSmall a → pos 0 -ℤ to_z w64 (of_z w64 a) ≡ neg_ℤ a
turned_is a small = rw (to_z-of_z w64 a (fits_signed_from_abs w64 a (omega arith))) (omega (arith, ints))
