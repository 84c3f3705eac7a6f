-- A flock with an offset has fewer states than powers.
use Rattle.std.proofs.Common.{◌⊎◌, inl, inr, ℕ, zero, suc, ◌+◌, ◌^◌, ◌<◌, ◌≤◌, arith}
use Rattle.std.proofs.Math.Pow.{pow-lt}
use Rattle.std.specs.Prelude.{ℤ, pos, negsuc, nat_abs, nat_le}
use Rattle.std.specs.List.{range_with_len, list_all}
use Rattle.std.proofs.lemmas.Bool.{and_parts, leb-true, cases_lt}
use Rattle.pop_leaf.proofs.Found.{find_some}
use Rattle.comp_counting.specs.FlockAtoms.{enough_for}
use Rattle.comp_flock.proofs.PowerFound.{offset_least}
use Rattle.comp_trees.specs.declared.range.TheConstants.{RANGE_LIMIT}
use Rattle.comp_powers_leaf.specs.PowersRange.{bound_size, suffices}
use Rattle.comp_trees.proofs.Bits.{some_power}
use Rattle.comp_powers_leaf.proofs.Building.{states_counted}
use Rattle.comp_flock.proofs.Chain.{worths-chain}
use Rattle.comp_flock.proofs.TopFound.{top-is}
use Rattle.comp_net.specs.Smaller.{SmallerLaw, PrefixSmallerLaw}

pub enough-within : (bound : ℤ) (m : ℕ) → 1 ≤ m → bound_size bound ≤ m → enough_for bound ≤ m
enough-within (pos zero) m some l = some
enough-within (pos (suc n)) m some l = let e : suc n ≤ m = l in let h : n + 1 ≤ m = omega (arith, e) in h
enough-within (negsuc n) m some l = l

pub flock-smaller : SmallerLaw
flock-smaller coefs bound k range e f =
    let found = find_some (suffices coefs bound) (range_with_len 0 (RANGE_LIMIT + 1)) range f in
    let all = and_parts (list_all (λ a. nat_le (nat_abs a) (2 ^ range)) coefs) (nat_le (bound_size bound) (2 ^ range)) found.2 in
    let some : 1 ≤ 2 ^ range = (let s = some_power range in omega (arith, s)) in
    let within = enough-within bound (2 ^ range) some (leb-true (bound_size bound) (2 ^ range) all.1) in
    let low = (offset_least coefs bound k e).least range within in
    let count = states_counted coefs range in
    omega (arith, low, count)

pub lower : (i j : ℕ) → 2 ^ i ≤ 2 ^ j → i ≤ j
lower i j l = go (cases_lt j i)
  where
    go : (j < i) ⊎ (i ≤ j) → i ≤ j
    go (inl m) = let p = pow-lt m in absurd (omega (arith, p, l))
    go (inr m) = m

-- the greatest power up to c is no greater than the range's
pub prefix-smaller : PrefixSmallerLaw
prefix-smaller coefs bound top range e f =
    let found = find_some (suffices coefs bound) (range_with_len 0 (RANGE_LIMIT + 1)) range f in
    let all = and_parts (list_all (λ a. nat_le (nat_abs a) (2 ^ range)) coefs) (nat_le (bound_size bound) (2 ^ range)) found.2 in
    let some : 1 ≤ 2 ^ range = (let s = some_power range in omega (arith, s)) in
    let within = enough-within bound (2 ^ range) some (leb-true (bound_size bound) (2 ^ range) all.1) in
    let is = top-is coefs bound top e in
    let chain = worths-chain (enough_for bound) top is.least is.most in
    let low = lower top range (let least = is.least in omega (arith, least, within)) in
    let count = states_counted coefs range in
    let long = chain.long in
    let few = chain.few in
    omega (arith, low, count, long, few)
