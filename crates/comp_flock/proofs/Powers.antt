-- The worths of states that hold powers of two.
use Rattle.std.proofs.Common.{◌≡◌, ◌∙◌, ℕ, suc, ◌+◌, ◌^◌, ◌≤◌, refl, ap, zero-add, arith}
use Rattle.std.proofs.lemmas.List.FromFn.{length-map-range_with_len, get_or-map-range_with_len}
use Rattle.comp_trees.proofs.Bits.{double, some_power, power-le}
use Rattle.comp_counting.specs.declared.limits.TheConstants.{POWER_LIMIT}
use Rattle.std.proofs.lemmas.List.Elements.{All-from_get_or}
use Rattle.comp_flock.specs.CountLeaf.{worth_in, AreWorths}
use Rattle.comp_flock.specs.Covered.{IsChain}
use Rattle.comp_flock.specs.FlockLeaf.{power_worths}
use Rattle.comp_flock.proofs.WorthLaws.{no-more}

pub power_small : (k : ℕ) → k ≤ POWER_LIMIT → 2 ^ k ≤ 2 ^ POWER_LIMIT
power_small k l = power-le k POWER_LIMIT l

-- the worth of state i + 1
pub worth-power : (k i : ℕ) → i ≤ k → worth_in (power_worths k) (i + 1) ≡ 2 ^ i
worth-power k i l =
    ap (worth_in (power_worths k)) (let e : i + 1 ≡ suc i = omega arith in e)
    ∙ get_or-map-range_with_len (λ i. 2 ^ i) 0 (k + 1) i i 0 (omega (arith, l)) (zero-add i)

pub powers-chain : (k : ℕ) → IsChain (power_worths k) (2 ^ k) k k
powers-chain k = record {
  long = omega (arith, length-map-range_with_len (λ i. 2 ^ i) 0 (k + 1));
  low = omega arith;
  few = omega arith;
  nothing = refl;
  powers = λ i l. worth-power k i l;
  last = worth-power k k (omega arith);
  below = (let twice = double k in let some = some_power k in omega (arith, twice, some));
  steps = λ q l m. absurd (omega (arith, l, m));
}

-- what the code knows of the worths
pub power-are : (k : ℕ) → k ≤ POWER_LIMIT → AreWorths (power_worths k) k
power-are k high = record {
  long = (powers-chain k).long;
  few = omega (arith, high);
  small = All-from_get_or (λ n. n ≤ 2 ^ POWER_LIMIT) (power_worths k) 0 (λ i l. let most = no-more (power_worths k) (2 ^ k) k k (powers-chain k) i (let long = (powers-chain k).long in omega (arith, l, long)) in let within = power_small k high in omega (arith, most, within));
}
