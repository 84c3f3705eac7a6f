-- What is known of the power of a flock atom, with an offset or without.
use Rattle.std.proofs.Common.{◌≡◌, ◌⊎◌, ◌∙◌, inl, inr, ℕ, ◌+◌, ◌^◌, ◌<◌, ◌≤◌, Bool, true, false, List, refl, ap, sym, arith}
use Rattle.std.specs.Prelude.{ℤ, Some, None, find, nat_le, if◌then◌else◌}
use Rattle.std.specs.List.{range_with_len, list_all}
use Rattle.std.specs.Ordering.{int_eq}
use Rattle.std.proofs.lemmas.Bool.Decides.{Decides-int_eq}
use Rattle.std.proofs.lemmas.Bool.{leb-true, le-leb, cases_lt}
use Rattle.std.proofs.lemmas.Option.{slice_get_within, get_or_from_slice_get}
use Rattle.std.proofs.lemmas.List.FromFn.{length-range_with_len, get_or-range_with_len}
use Rattle.pop_leaf.proofs.Found.{find_some}
use Rattle.pres_ast.specs.PredModel.{IsAtomSum}
use Rattle.comp_counting.specs.declared.limits.TheConstants.{POWER_LIMIT}
use Rattle.comp_flock.specs.OffsetLaw.{IsLeastPower}
use Rattle.comp_counting.specs.FlockAtoms.{is_counted, is_flock_coefficient, flock_bound, power_of, says_enough, enough_for, offset_power, IsOffset}
use Rattle.comp_counting.proofs.FirstFound.{find-first, find-any}

pub record IsPower (coefs : List ℤ) (bound : ℤ) (k : ℕ) : Type 0 where
  pub are : list_all is_flock_coefficient coefs ≡ true
  pub low : 1 ≤ k
  pub high : k ≤ POWER_LIMIT
  pub bound_is : bound ≡ flock_bound k

pub power_is : (coefs : List ℤ) (bound : ℤ) (k : ℕ) → power_of coefs bound ≡ Some k → IsPower coefs bound k
power_is coefs bound k e = go (list_all is_flock_coefficient coefs) refl e
  where
    test : ℕ → Bool
    test j = int_eq bound (flock_bound j)

    none_some : None ≡ Some k → IsPower coefs bound k
    none_some h = cc

    go : (c : Bool) → list_all is_flock_coefficient coefs ≡ c → (if c then find (λ j. int_eq bound (flock_bound j)) (range_with_len 1 POWER_LIMIT) else None) ≡ Some k → IsPower coefs bound k
    go false f h = none_some h
    go true f h =
        let found = find_some (λ j. int_eq bound (flock_bound j)) (range_with_len 1 POWER_LIMIT) k h in
        let within = slice_get_within (range_with_len 1 POWER_LIMIT) found.0 k found.1 in
        let below : found.0 < POWER_LIMIT = omega (arith, within, length-range_with_len 1 POWER_LIMIT) in
        let same : 1 + found.0 ≡ k = sym (get_or-range_with_len 1 POWER_LIMIT found.0 0 below) ∙ get_or_from_slice_get (range_with_len 1 POWER_LIMIT) found.0 k 0 found.1 in
        record {
          are = f;
          low = omega arith;
          high = omega arith;
          bound_is = (Decides-int_eq bound (flock_bound k)).0 found.2;
        }

pub record IsOffsetPower (coefs : List ℤ) (bound : ℤ) (k : ℕ) : Type 0 where
  pub are : list_all (is_counted (says_enough bound) (enough_for bound)) coefs ≡ true
  pub high : k ≤ POWER_LIMIT
  pub within : enough_for bound ≤ 2 ^ k

pub offset_power_is : (coefs : List ℤ) (bound : ℤ) (k : ℕ) → offset_power coefs bound ≡ Some k → IsOffsetPower coefs bound k
offset_power_is coefs bound k e = go (list_all (is_counted (says_enough bound) (enough_for bound)) coefs) refl e
  where
    none_some : None ≡ Some k → IsOffsetPower coefs bound k
    none_some h = cc

    go : (c : Bool) → list_all (is_counted (says_enough bound) (enough_for bound)) coefs ≡ c → (if c then find (λ j. nat_le (enough_for bound) (2 ^ j)) (range_with_len 0 (POWER_LIMIT + 1)) else None) ≡ Some k → IsOffsetPower coefs bound k
    go false f h = none_some h
    go true f h =
        let found = find_some (λ j. nat_le (enough_for bound) (2 ^ j)) (range_with_len 0 (POWER_LIMIT + 1)) k h in
        let within = slice_get_within (range_with_len 0 (POWER_LIMIT + 1)) found.0 k found.1 in
        let below : found.0 < POWER_LIMIT + 1 = omega (arith, within, length-range_with_len 0 (POWER_LIMIT + 1)) in
        let same : 0 + found.0 ≡ k = sym (get_or-range_with_len 0 (POWER_LIMIT + 1) found.0 0 below) ∙ get_or_from_slice_get (range_with_len 0 (POWER_LIMIT + 1)) found.0 k 0 found.1 in
        record {
          are = f;
          high = omega (arith, below, same);
          within = leb-true (enough_for bound) (2 ^ k) found.2;
        }

pub offset_found : (coefs : List ℤ) (bound : ℤ) (k : ℕ) → IsAtomSum coefs → offset_power coefs bound ≡ Some k → IsOffset coefs bound k
offset_found coefs bound k sum e = let is = offset_power_is coefs bound k e in record { sum = sum; are = is.are; high = is.high; within = is.within }

pub offset_least : (coefs : List ℤ) (bound : ℤ) (k : ℕ) → offset_power coefs bound ≡ Some k → IsLeastPower (enough_for bound) k
offset_least coefs bound k e = record {
  enough = (offset_power_is coefs bound k e).within;
  least = λ j l. go (list_all (is_counted (says_enough bound) (enough_for bound)) coefs) e j l (cases_lt j k);
}
  where
    go : (c : Bool) → (if c then find (λ j. nat_le (enough_for bound) (2 ^ j)) (range_with_len 0 (POWER_LIMIT + 1)) else None) ≡ Some k → (j : ℕ) → enough_for bound ≤ 2 ^ j → (j < k) ⊎ (k ≤ j) → k ≤ j
    go c h j l (inr m) = m
    go false h j l (inl m) = absurd (let g : None ≡ Some k = h in cc)
    go true h j l (inl m) =
        let none = find-first (λ j. nat_le (enough_for bound) (2 ^ j)) 0 (POWER_LIMIT + 1) k h j (omega arith) m in
        absurd (let f : true ≡ false = sym (le-leb (enough_for bound) (2 ^ j) l) ∙ none in cc)

pub offset_every : (coefs : List ℤ) (bound : ℤ) → list_all (is_counted (says_enough bound) (enough_for bound)) coefs ≡ true → enough_for bound ≤ 2 ^ POWER_LIMIT → (k : ℕ) × (offset_power coefs bound ≡ Some k)
offset_every coefs bound are l =
    let found = find-any (λ j. nat_le (enough_for bound) (2 ^ j)) 0 (POWER_LIMIT + 1) POWER_LIMIT (omega arith) (omega arith) (le-leb (enough_for bound) (2 ^ POWER_LIMIT) l) in
    (found.0, ap (λ (c : Bool). if c then find (λ j. nat_le (enough_for bound) (2 ^ j)) (range_with_len 0 (POWER_LIMIT + 1)) else None) are ∙ found.1)
