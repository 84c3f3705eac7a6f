-- PrefixLeaf: the built leaf without helpers of an atom that counts its agents. Its target is c. The greatest one of c
-- is that of 2^top.
use Rattle.std.specs.Prelude.{◌≡◌, ◌≤◌, ◌<◌, ℕ, zero, suc, ◌+◌, ◌-◌, ◌^◌, ◌%◌, Bool, true, false, ◌&&◌, nat_le, nat_lt}
use Rattle.std.specs.Prelude.{if◌then◌else◌, List, [], ◌∷◌, ◌++◌, length, map, ℤ, Option, None, find}
use Rattle.std.specs.List.{range_with_len, list_all}
use Rattle.pop_leaf.specs.LeafModel.{LeafModel}
use Rattle.pres_ast.specs.PredModel.{IsAtomSum}
use Rattle.comp_trees.specs.Bits.{has_bit}
use Rattle.comp_counting.specs.declared.limits.TheConstants.{POWER_LIMIT}
use Rattle.comp_counting.specs.FlockAtoms.{is_counted, says_enough, enough_for}
use Rattle.comp_flock.specs.CountLeaf.{count_leaf}

-- ---- the atoms

-- the atom counts its agents, and 2^top is the greatest power of two up to c
pub record IsPrefix (coefs : List ℤ) (bound : ℤ) (top : ℕ) : Type 0 where
  pub sum : IsAtomSum coefs
  pub are : list_all (is_counted (says_enough bound) (enough_for bound)) coefs ≡ true
  pub least : 2 ^ top ≤ enough_for bound
  pub most : enough_for bound < 2 ^ (top + 1)
  pub within : enough_for bound ≤ 2 ^ POWER_LIMIT

-- the place of the greatest one of c, if the atom counts its agents and c is within the limit
abbrev pub top_of_counted : Bool → ℕ → List ℤ → Option ℕ
top_of_counted says c coefs =
    if nat_le c (2 ^ POWER_LIMIT) && list_all (is_counted says c) coefs then
    find (λ k. nat_lt c (2 ^ (k + 1))) (range_with_len 0 (POWER_LIMIT + 1))
    else None

abbrev pub prefix_top : List ℤ → ℤ → Option ℕ
prefix_top coefs bound = top_of_counted (says_enough bound) (enough_for bound) coefs

-- ---- what the states stand for

-- c without its ones below a place, for each place below i that has a one: the prefixes of c, the least first
abbrev pub prefixes : ℕ → ℕ → List ℕ
prefixes c zero = []
prefixes c (suc i) = if has_bit c i then ((c - c % 2 ^ i) ∷ prefixes c i) else prefixes c i

-- what the states are worth, from the least on: nothing, the powers below 2^top, and the prefixes of c, from 2^top to c
abbrev pub worths : ℕ → ℕ → List ℕ
worths c top = (0 ∷ map (λ i. 2 ^ i) (range_with_len 0 top)) ++ prefixes c (top + 1)

-- ---- the leaf

abbrev pub bound_worths : ℤ → ℕ → List ℕ
bound_worths bound top = worths (enough_for bound) top

-- the state before the full one
abbrev pub last_place : ℤ → ℕ → ℕ
last_place bound top = length (bound_worths bound top) - 2

abbrev pub prefix_leaf_of : List ℤ → ℤ → ℕ → LeafModel
prefix_leaf_of coefs bound top =
    count_leaf coefs (says_enough bound) (enough_for bound) false (enough_for bound) (bound_worths bound top)
    (last_place bound top)
    []
