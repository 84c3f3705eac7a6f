-- The weights of the layer.
use Rattle.std.proofs.Common.{◌≡◌, ℕ, zero, suc, ◌+◌, ◌<◌, Bool, true, refl, arith, false}
use Rattle.std.specs.Prelude.{pos, ◌==◌, ◌≤ℤ◌, if◌then◌else◌}
use Rattle.std.proofs.lemmas.Int.{ints}
use Rattle.std.proofs.lemmas.Bool.{eq-eqb, ne_eqb}
use Rattle.comp_counting.specs.FullState.{flock_weight}

pub weight-full : (k : ℕ) → flock_weight k (k + 1) ≡ pos 0
weight-full k = let a = ne_eqb (k + 1) 0 (λ e. omega arith) in let b = eq-eqb (k + 1) (k + 1) refl in rw (a, b) refl

pub weight-power : (k i : ℕ) → i < k → flock_weight k (i + 1) ≡ pos 2
weight-power k i l = let a = ne_eqb (i + 1) 0 (λ e. omega arith) in let b = ne_eqb (i + 1) (k + 1) (λ e. omega arith) in rw (a, b) refl

pub weight_within : (k q : ℕ) → (pos 0 ≤ℤ flock_weight k q) × (flock_weight k q ≤ℤ pos 2)
weight_within k q = by (q == 0) (q == k + 1)
  where
    by : (a b : Bool) → (pos 0 ≤ℤ (if a then pos 1 else (if b then pos 0 else pos 2))) × ((if a then pos 1 else (if b then pos 0 else pos 2)) ≤ℤ pos 2)
    by true b = (omega (arith, ints), omega (arith, ints))
    by false true = (omega (arith, ints), omega (arith, ints))
    by false false = (omega (arith, ints), omega (arith, ints))

-- without a doubling: 2^k is 1, and the other state is `0`
pub none-within : (q : ℕ) → q < 2 → (pos 0 ≤ℤ flock_weight 0 q) × (flock_weight 0 q ≤ℤ pos 1)
none-within zero l = (omega (arith, ints), omega (arith, ints))
none-within (suc zero) l = (omega (arith, ints), omega (arith, ints))
none-within (suc (suc q)) l = absurd (omega arith)
