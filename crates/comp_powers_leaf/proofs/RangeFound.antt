-- The range that is found suffices.
use Rattle.std.proofs.Common.{◌≡◌, ℕ, ◌+◌, ◌^◌, ◌<◌, ◌≤◌, List, length, arith}
use Rattle.std.specs.Prelude.{ℤ, pos, negsuc, neg_ℤ, ◌<ℤ◌, nat_abs, nat_le, Some}
use Rattle.std.specs.List.{range_with_len, list_all}
use Rattle.std.proofs.lemmas.Int.{ints}
use Rattle.std.proofs.lemmas.Bool.{and_parts, leb-true}
use Rattle.std.proofs.lemmas.Option.{slice_get_within, get_or_from_slice_get}
use Rattle.std.proofs.lemmas.List.Sums.{AllPass-from_list_all}
use Rattle.std.proofs.lemmas.List.FromFn.{length-range_with_len, get_or-range_with_len}
use Rattle.pop_io.specs.declared.names.TheConstants.{VARIABLE_LIMIT}
use Rattle.pop_leaf.specs.declared.limits.TheConstants.{STATE_LIMIT}
use Rattle.pop_leaf.proofs.Found.{find_some}
use Rattle.comp_powers_leaf.specs.PowersLeaf.{coefficient_of, roles, IsPowers}
use Rattle.comp_powers_leaf.specs.PowersRange.{bound_size, suffices, powers_range}
use Rattle.comp_trees.proofs.Bits.{some_power}

bounded : (a : ℤ) (m : ℕ) → 0 < m → bound_size a ≤ m → (a <ℤ pos (m + 1)) × (neg_ℤ (pos m) <ℤ a)
bounded (pos n) m s l = ((let h : pos n <ℤ pos (m + 1) = omega (arith, ints, l) in h), (let h : neg_ℤ (pos m) <ℤ pos n = omega (arith, ints, s) in h))
bounded (negsuc n) m s l = ((let h : negsuc n <ℤ pos (m + 1) = omega (arith, ints) in h), (let h : neg_ℤ (pos m) <ℤ negsuc n = omega (arith, ints, l) in h))

pub range-suffices : (coefs : List ℤ) (bound : ℤ) (k : ℕ) → powers_range coefs bound ≡ Some k → 1 ≤ length coefs → length coefs ≤ VARIABLE_LIMIT → length (roles coefs k) ≤ STATE_LIMIT → IsPowers coefs bound k
range-suffices coefs bound k e some few narrow =
    let found = find_some (suffices coefs bound) (range_with_len 0 41) k e in
    let below : found.0 < 41 = omega (arith, slice_get_within (range_with_len 0 41) found.0 k found.1, length-range_with_len 0 41) in
    let at = get_or-range_with_len 0 41 found.0 k below in
    let got = get_or_from_slice_get (range_with_len 0 41) found.0 k k found.1 in
    let all = and_parts (list_all (λ a. nat_le (nat_abs a) (2 ^ k)) coefs) (nat_le (bound_size bound) (2 ^ k)) found.2 in
    let both = bounded bound (2 ^ k) (some_power k) (leb-true (bound_size bound) (2 ^ k) all.1) in
    record {
      some = some;
      few = few;
      power = omega (arith, below, at, got);
      within = λ j l. leb-true (nat_abs (coefficient_of coefs j)) (2 ^ k) (AllPass-from_list_all (λ a. nat_le (nat_abs a) (2 ^ k)) coefs all.0 j (pos 0) l);
      below = both.0;
      above = both.1;
      states = narrow;
    }
