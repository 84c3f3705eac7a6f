-- What is known of the place that is found.
use Rattle.std.proofs.Common.{◌≡◌, ◌∙◌, ℕ, zero, suc, ◌+◌, ◌^◌, ◌<◌, ◌≤◌, Bool, true, false, ◌&&◌, List, refl, ap, arith}
use Rattle.std.specs.Prelude.{ℤ, pos, negsuc, Some, None, find, nat_le, nat_lt, if◌then◌else◌}
use Rattle.std.specs.List.{range_with_len, list_all}
use Rattle.std.proofs.lemmas.Bool.{leb-true, le-leb, lt-ltb, ltb-true, ltb-false, and_parts}
use Rattle.pres_ast.specs.PredModel.{IsAtomSum}
use Rattle.comp_trees.proofs.Bits.{power-le}
use Rattle.comp_counting.specs.declared.limits.TheConstants.{POWER_LIMIT}
use Rattle.comp_counting.specs.FlockAtoms.{is_counted, says_enough, enough_for}
use Rattle.comp_counting.proofs.FirstFound.{find-first, find-any, find-in}
use Rattle.comp_flock.specs.PrefixLeaf.{IsPrefix, prefix_top}
use Rattle.comp_flock.proofs.Formed.{place-few}

-- what is known of it
pub record IsTop (coefs : List ℤ) (bound : ℤ) (top : ℕ) : Type 0 where
  pub are : list_all (is_counted (says_enough bound) (enough_for bound)) coefs ≡ true
  pub least : 2 ^ top ≤ enough_for bound
  pub most : enough_for bound < 2 ^ (top + 1)
  pub within : enough_for bound ≤ 2 ^ POWER_LIMIT

module _ (coefs : List ℤ) (bound : ℤ) where
  abbrev c : ℕ
  c = enough_for bound

  abbrev counted : Bool
  counted = list_all (is_counted (says_enough bound) c) coefs

  abbrev test : ℕ → Bool
  test k = nat_lt c (2 ^ (k + 1))

  -- no lower place has enough
  least : (top : ℕ) → 1 ≤ c → ((j : ℕ) → j < top → test j ≡ false) → 2 ^ top ≤ c
  least zero some none = omega (arith, some)
  least (suc j) some none =
      let l = ltb-false c (2 ^ (j + 1)) (none j (omega arith)) in
      let same = ap (λ m. 2 ^ m) (let e : j + 1 ≡ suc j = omega arith in e) in
      omega (arith, l, same)

  enough-some : 1 ≤ c
  enough-some = go bound
    where
      go : (a : ℤ) → 1 ≤ enough_for a
      go (pos zero) = omega arith
      go (pos (suc n)) = omega arith
      go (negsuc n) = omega arith

  pub top-is : (top : ℕ) → prefix_top coefs bound ≡ Some top → IsTop coefs bound top
  top-is top e = go (nat_le c (2 ^ POWER_LIMIT) && counted) refl e
    where
      go : (b : Bool) → nat_le c (2 ^ POWER_LIMIT) && counted ≡ b → (if b then find test (range_with_len 0 (POWER_LIMIT + 1)) else None) ≡ Some top → IsTop coefs bound top
      go false f h = absurd (let g : None ≡ Some top = h in cc)
      go true f h =
          let parts = and_parts (nat_le c (2 ^ POWER_LIMIT)) counted f in
          let found = find-in test 0 (POWER_LIMIT + 1) top h in
          record {
            are = parts.1;
            least = least top enough-some (λ j l. find-first test 0 (POWER_LIMIT + 1) top h j (omega arith) l);
            most = ltb-true c (2 ^ (top + 1)) found;
            within = leb-true c (2 ^ POWER_LIMIT) parts.0;
          }

  pub top-prefix : (top : ℕ) → IsAtomSum coefs → IsTop coefs bound top → IsPrefix coefs bound top
  top-prefix top sum is = record { sum = sum; are = is.are; least = is.least; most = is.most; within = is.within }

  pub top-found : (top : ℕ) → IsAtomSum coefs → prefix_top coefs bound ≡ Some top → IsPrefix coefs bound top
  top-found top sum e = top-prefix top sum (top-is top e)

  pub top-low : (top : ℕ) → IsTop coefs bound top → top ≤ POWER_LIMIT
  top-low top is = place-few c top is.least is.within

  pub top-every : counted ≡ true → c ≤ 2 ^ POWER_LIMIT → (top : ℕ) × (prefix_top coefs bound ≡ Some top)
  top-every are l =
      let more = power-le POWER_LIMIT (POWER_LIMIT + 1) (omega arith) in
      let found = find-any test 0 (POWER_LIMIT + 1) POWER_LIMIT (omega arith) (omega arith) (lt-ltb c (2 ^ (POWER_LIMIT + 1)) (omega (arith, l))) in
      let passes : nat_le c (2 ^ POWER_LIMIT) && counted ≡ true = rw (le-leb c (2 ^ POWER_LIMIT) l, are) refl in
      (found.0, ap (λ (b : Bool). if b then find test (range_with_len 0 (POWER_LIMIT + 1)) else None) passes ∙ found.1)
