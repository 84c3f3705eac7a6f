-- The states of a built leaf of `Rest`.
use Rattle.std.proofs.Common.{◌≡◌, ◌⊎◌, inl, inr, subst, ℕ, ◌+◌, ◌<◌, ◌≤◌, Bool, true, false, arith}
use Rattle.std.proofs.lemmas.Bool.{cases_lt}
use Rattle.comp_remainder.specs.RemainderLeaf.{remainder_follower}

-- a state is a leader or a follower
pub data Kind (m : ℕ) : ℕ → Type 0 where
  a_leader : (q : ℕ) → q < m → Kind m q
  a_follower : (bit : Bool) → Kind m (remainder_follower m bit)

pub kind_of : (m q : ℕ) → q < m + 2 → Kind m q
kind_of m q l = first (cases_lt q m)
  where
    second : (q < m + 1) ⊎ (m + 1 ≤ q) → m ≤ q → Kind m q
    second (inl h) k = subst (Kind m) (let e : m ≡ q = omega arith in e) (a_follower false)
    second (inr h) k = subst (Kind m) (let e : m + 1 ≡ q = omega arith in e) (a_follower true)

    first : (q < m) ⊎ (m ≤ q) → Kind m q
    first (inl h) = a_leader q h
    first (inr h) = second (cases_lt q (m + 1)) h
