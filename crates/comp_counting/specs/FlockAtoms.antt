-- FlockAtoms: the atoms that say that a sum is at least c, or deny it, where each coefficient is 0, a power of two or
-- at least c.
use Rattle.std.specs.Prelude.{◌≡◌, ◌≤◌, ℕ, zero, suc, ◌+◌, ◌^◌, Bool, true, false, ◌||◌, ◌==◌, nat_le}
use Rattle.std.specs.Prelude.{if◌then◌else◌, List, length, ℤ, pos, negsuc, ◌-ℤ◌, Option, None, find, is_some, ◌&&◌}
use Rattle.std.specs.Prelude.{nat_abs, int_le}
use Rattle.std.specs.List.{range_with_len, list_all}
use Rattle.std.specs.Ordering.{int_eq}
use Rattle.pop_io.specs.declared.names.TheConstants.{VARIABLE_LIMIT}
use Rattle.pres_ast.specs.PredModel.{IsAtomSum, PredModel}
use Rattle.comp_trees.specs.Bits.{power_in}
use Rattle.comp_counting.specs.declared.limits.TheConstants.{POWER_LIMIT}
use Rattle.pres_ast.specs.PredTree.{LessThan}

-- ---- the atoms that say `x >= 2^k`

-- 0 or -1
abbrev pub is_flock_coefficient : ℤ → Bool
is_flock_coefficient a = int_eq a (pos 0) || int_eq a (negsuc 0)

-- the bound of the atom that says `x >= 2^k`
abbrev pub flock_bound : ℕ → ℤ
flock_bound k = pos 1 -ℤ pos (2 ^ k)

-- the power k of a flock atom, from 1 to the limit
abbrev pub power_of : List ℤ → ℤ → Option ℕ
power_of coefs bound =
    if list_all is_flock_coefficient coefs then find (λ k. int_eq bound (flock_bound k)) (range_with_len 1 POWER_LIMIT)
    else None

-- the coefficients of a flock atom, over at least one variable, and its power
pub record IsFlock (coefs : List ℤ) (k : ℕ) : Type 0 where
  pub some : 1 ≤ length coefs
  pub few : length coefs ≤ VARIABLE_LIMIT
  pub are : list_all is_flock_coefficient coefs ≡ true
  pub low : 1 ≤ k
  pub high : k ≤ POWER_LIMIT

-- ---- the atoms that say that a sum is at least c, as -x < 1 - c, or deny it, as x < c, for any c from 1 on

-- whether an atom with this bound says that there are enough
abbrev pub says_enough : ℤ → Bool
says_enough (pos zero) = true
says_enough (pos (suc n)) = false
says_enough (negsuc n) = true

-- c, how many are enough
abbrev pub enough_for : ℤ → ℕ
enough_for (pos zero) = 1
enough_for (pos (suc n)) = n + 1
enough_for (negsuc n) = n + 2

-- an agent adds nothing, or something below 0 where the atom says that there are enough, above 0 where it denies it
abbrev pub has_sign : Bool → ℤ → Bool
has_sign says a = if says then int_le a (pos 0) else int_le (pos 0) a

-- what an agent counts for: at least c, a power of two, or nothing
abbrev pub is_size : ℕ → ℕ → Bool
is_size c n = nat_le c n || (is_some (power_in POWER_LIMIT n) || n == 0)

unfoldable pub is_counted : Bool → ℕ → ℤ → Bool
is_counted says c a = has_sign says a && is_size c (nat_abs a)

-- the least k up to the limit with c <= 2^k, if the atom counts its agents
abbrev pub power_of_counted : Bool → ℕ → List ℤ → Option ℕ
power_of_counted says c coefs =
    if list_all (is_counted says c) coefs then find (λ k. nat_le c (2 ^ k)) (range_with_len 0 (POWER_LIMIT + 1)) else None

abbrev pub offset_power : List ℤ → ℤ → Option ℕ
offset_power coefs bound = power_of_counted (says_enough bound) (enough_for bound) coefs

-- the atom counts its agents, over at least one variable, and 2^k is enough
pub record IsOffset (coefs : List ℤ) (bound : ℤ) (k : ℕ) : Type 0 where
  pub sum : IsAtomSum coefs
  pub are : list_all (is_counted (says_enough bound) (enough_for bound)) coefs ≡ true
  pub high : k ≤ POWER_LIMIT
  pub within : enough_for bound ≤ 2 ^ k

-- ---- as predicates

abbrev pub offset_pred_of : List ℤ → ℤ → PredModel
offset_pred_of coefs bound = record { variables = length coefs; tree = LessThan coefs bound }

abbrev pub flock_pred_of : List ℤ → ℕ → PredModel
flock_pred_of coefs k = offset_pred_of coefs (flock_bound k)
