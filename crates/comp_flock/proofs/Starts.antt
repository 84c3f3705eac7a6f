-- Where the agents of a variable start, and what they are worth there.
use Rattle.std.proofs.Common.{◌≡◌, ◌⊎◌, ◌∙◌, inl, inr, ℕ, ◌+◌, ◌^◌, ◌<◌, ◌≤◌, Bool, true, false, ◌||◌, List, length, map, get_or, refl, ap, sym, arith}
use Rattle.std.specs.Prelude.{ℤ, pos, if◌then◌else◌, ◌==◌, All, nat_abs, nat_le, Option, None, Some, is_some}
use Rattle.std.specs.List.{range_with_len, list_all}
use Rattle.std.proofs.lemmas.Bool.{leb-true, leb-false, eqb-true, cases_lt}
use Rattle.std.proofs.lemmas.List.Elements.{All-map, All-from_get_or}
use Rattle.pop_leaf.proofs.Found.{find_some}
use Rattle.comp_trees.specs.Bits.{power_in}
use Rattle.comp_trees.proofs.Bits.{power-le}
use Rattle.comp_counting.specs.declared.limits.TheConstants.{POWER_LIMIT}
use Rattle.comp_counting.specs.FlockAtoms.{is_counted, is_size}
use Rattle.comp_counting.specs.FullState.{place_of, flock_start}
use Rattle.comp_counting.proofs.Counted.{counted}
use Rattle.comp_counting.proofs.FullNodes.{StartsFull}
use Rattle.comp_flock.specs.CountLeaf.{worth_in}
use Rattle.comp_flock.specs.Covered.{IsChain}

-- in the full state an agent that is enough, any other where it is worth what its state is
abbrev pub IsStart : List ℕ → ℕ → ℕ → ℤ → ℕ → Type 0
IsStart ws c k a q = (q ≡ k + 1) × (c ≤ nat_abs a) ⊎ (q ≤ k) × (worth_in ws q ≡ nat_abs a)

module _ (ws : List ℕ) (c t top k : ℕ) (is : IsChain ws t top k) (reach : c ≤ t) where
  start-is : (a : ℤ) → is_size c (nat_abs a) ≡ true → IsStart ws c k a (flock_start c k a)
  start-is a sized = go (nat_le c n) (power_in POWER_LIMIT n) refl refl sized
    where
      n : ℕ
      n = nat_abs a

      low : (i : ℕ) → 2 ^ i ≡ n → n < c → i ≤ top
      low i e l = by (cases_lt top i)
        where
          by : (top < i) ⊎ (i ≤ top) → i ≤ top
          by (inl m) = let p = power-le (top + 1) i (omega (arith, m)) in let below = is.below in absurd (omega (arith, p, e, l, below, reach))
          by (inr m) = m

      power : (i : ℕ) → 2 ^ i ≡ n → n < c → IsStart ws c k a (i + 1)
      power i e l = by (cases_lt i k)
        where
          worth : worth_in ws (i + 1) ≡ n
          worth = is.powers i (low i e l) ∙ e

          by : (i < k) ⊎ (k ≤ i) → IsStart ws c k a (i + 1)
          by (inl m) = inr ((omega (arith, m)), worth)
          by (inr m) =
              let most = low i e l in
              let below = is.low in
              let same = ap (worth_in ws) (let f : i + 1 ≡ k + 1 = omega (arith, m, most, below) in f) ∙ is.last in
              absurd (omega (arith, same, worth, l, reach))

      go : (b : Bool) (o : Option ℕ) → nat_le c n ≡ b → power_in POWER_LIMIT n ≡ o → (b || (is_some o || n == 0)) ≡ true → IsStart ws c k a (if b then k + 1 else place_of o)
      go true o e f h = inl (refl, leb-true c n e)
      go false (Some i) e f h =
          let found = find_some (λ i. 2 ^ i == n) (range_with_len 0 (POWER_LIMIT + 1)) i f in
          power i (eqb-true (2 ^ i) n found.2) (leb-false c n e)
      go false None e f h = inr (omega arith, is.nothing ∙ sym (eqb-true n 0 h))

  pub start-at : (says : Bool) (coefs : List ℤ) (i : ℕ) → list_all (is_counted says c) coefs ≡ true → i < length coefs → IsStart ws c k (get_or coefs i (pos 0)) (flock_start c k (get_or coefs i (pos 0)))
  start-at says coefs i are l = start-is (get_or coefs i (pos 0)) (counted says c coefs are i l).1

  pub starts-full : (a : ℤ) → IsStart ws c k a (flock_start c k a) → StartsFull c k a
  starts-full a (inl h) = inl h
  starts-full a (inr h) = inr h.0

  start-low : (a : ℤ) (q : ℕ) → IsStart ws c k a q → q < k + 2
  start-low a q (inl h) = let e = h.0 in omega (arith, e)
  start-low a q (inr h) = let l = h.0 in omega (arith, l)

  pub starts-low : (says : Bool) (coefs : List ℤ) → list_all (is_counted says c) coefs ≡ true → All (λ q. q < k + 2) (map (flock_start c k) coefs)
  starts-low says coefs are =
      All-map (λ q. q < k + 2) (flock_start c k) coefs
      (All-from_get_or (λ a. flock_start c k a < k + 2) coefs (pos 0) (λ i l. start-low (get_or coefs i (pos 0)) _ (start-at says coefs i are l)))
