-- What a full agent of a flock counts for at most, and which coefficients flock atoms have.
use Rattle.std.proofs.Common.{◌≡◌, ◌∙◌, ℕ, ◌^◌, ◌<◌, ◌≤◌, Bool, true, false, ◌||◌, List, [], ◌∷◌, length, get_or, refl, ap, arith}
use Rattle.std.specs.Prelude.{ℤ, pos, negsuc, if◌then◌else◌, All, nat_abs, nat_le}
use Rattle.std.specs.List.{list_all}
use Rattle.std.specs.Ordering.{int_eq}
use Rattle.std.proofs.lemmas.Bool.{leb-true, and_parts}
use Rattle.std.proofs.lemmas.Bool.Decides.{Decides-int_eq}
use Rattle.std.proofs.lemmas.List.Elements.{All-from_get_or, All-get_or}
use Rattle.std.proofs.lemmas.List.Sums.{AllPass-from_list_all}
use Rattle.std.proofs.Math.Bool.{or-true}
use Rattle.pres_ast.specs.declared.limits.TheConstants.{COEFFICIENT_LIMIT}
use Rattle.pres_ast.specs.PredModel.{IsAtomSum}
use Rattle.comp_trees.proofs.Bits.{power-le}
use Rattle.comp_counting.specs.declared.limits.TheConstants.{POWER_LIMIT}
use Rattle.comp_counting.specs.FlockAtoms.{is_counted, is_flock_coefficient, IsFlock}
use Rattle.comp_flock.specs.FlockProof.{full_size}

-- ---- what an agent in 2^k counts for at most

module _ (coefs : List ℤ) (k : ℕ) (high : k ≤ POWER_LIMIT) where
  pub full-least : 2 ^ k ≤ full_size coefs k
  full-least = go (list_all (λ a. nat_le (nat_abs a) (2 ^ k)) coefs)
    where
      go : (b : Bool) → 2 ^ k ≤ (if b then 2 ^ k else 2 ^ POWER_LIMIT)
      go true = omega arith
      go false = power-le k POWER_LIMIT high

  pub full-most : full_size coefs k ≤ 2 ^ POWER_LIMIT
  full-most = go (list_all (λ a. nat_le (nat_abs a) (2 ^ k)) coefs)
    where
      go : (b : Bool) → (if b then 2 ^ k else 2 ^ POWER_LIMIT) ≤ 2 ^ POWER_LIMIT
      go true = power-le k POWER_LIMIT high
      go false = omega arith

  pub full-covers : All (λ a. nat_abs a ≤ COEFFICIENT_LIMIT) coefs → (i : ℕ) → i < length coefs → nat_abs (get_or coefs i (pos 0)) ≤ full_size coefs k
  full-covers small i l = go (list_all (λ a. nat_le (nat_abs a) (2 ^ k)) coefs) refl
    where
      go : (b : Bool) → list_all (λ a. nat_le (nat_abs a) (2 ^ k)) coefs ≡ b → nat_abs (get_or coefs i (pos 0)) ≤ (if b then 2 ^ k else 2 ^ POWER_LIMIT)
      go true e = leb-true (nat_abs (get_or coefs i (pos 0))) (2 ^ k) (AllPass-from_list_all (λ a. nat_le (nat_abs a) (2 ^ k)) coefs e i (pos 0) l)
      go false e = let few = All-get_or (λ a. nat_abs a ≤ COEFFICIENT_LIMIT) coefs i (pos 0) l small in omega (arith, few)

-- ---- coefficients that are 0 or -1

flock-counts : (c : ℕ) (a : ℤ) → is_flock_coefficient a ≡ true → (is_counted true c a ≡ true) × (nat_abs a ≤ COEFFICIENT_LIMIT)
unfolding is_counted
flock-counts c a e = go (int_eq a (pos 0)) (int_eq a (negsuc 0)) refl refl e
  where
    go : (b d : Bool) → int_eq a (pos 0) ≡ b → int_eq a (negsuc 0) ≡ d → (b || d) ≡ true → (is_counted true c a ≡ true) × (nat_abs a ≤ COEFFICIENT_LIMIT)
    go true d f g h = let is = (Decides-int_eq a (pos 0)).0 f in (ap (is_counted true c) is ∙ or-true (nat_le c 0), omega (arith, ap nat_abs is))
    go false true f g h = let is = (Decides-int_eq a (negsuc 0)).0 g in (ap (is_counted true c) is ∙ or-true (nat_le c 1), omega (arith, ap nat_abs is))
    go false false f g h = absurd (let n : false ≡ true = h in cc)

pub flock-are : (c : ℕ) (coefs : List ℤ) → list_all is_flock_coefficient coefs ≡ true → list_all (is_counted true c) coefs ≡ true
flock-are c [] e = refl
flock-are c (a ∷ others) e =
    let both = and_parts (is_flock_coefficient a) (list_all is_flock_coefficient others) e in
    let here = (flock-counts c a both.0).0 in
    let rest = flock-are c others both.1 in
    rw (here, rest) refl

pub flock-sum : (coefs : List ℤ) (k : ℕ) → IsFlock coefs k → IsAtomSum coefs
flock-sum coefs k is = record {
  some = is.some;
  few = is.few;
  small = All-from_get_or (λ a. nat_abs a ≤ COEFFICIENT_LIMIT) coefs (pos 0) (λ i l. (flock-counts 1 (get_or coefs i (pos 0)) (AllPass-from_list_all is_flock_coefficient coefs is.are i (pos 0) l)).1);
}
