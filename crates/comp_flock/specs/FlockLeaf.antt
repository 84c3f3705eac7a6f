-- FlockLeaf: the built leaf with k + 2 states of an atom that counts its agents. Its target is 2^k, at least c, and
-- helpers stand for 2^k - c agents; with c = 2^k there are none.
use Rattle.std.specs.Prelude.{◌≤◌, ℕ, ◌+◌, ◌-◌, ◌^◌, Bool, true, List, [], ◌∷◌, ◌++◌, length, map, filter, replicate, ℤ}
use Rattle.std.specs.List.{range_with_len}
use Rattle.pop_leaf.specs.declared.limits.TheConstants.{HELPER_LIMIT}
use Rattle.pop_leaf.specs.LeafModel.{LeafModel}
use Rattle.comp_trees.specs.Bits.{has_bit}
use Rattle.comp_counting.specs.FlockAtoms.{says_enough, enough_for}
use Rattle.comp_flock.specs.CountLeaf.{count_leaf}

-- what the states are worth: nothing, and the powers up to 2^k
abbrev pub power_worths : ℕ → List ℕ
power_worths k = 0 ∷ map (λ i. 2 ^ i) (range_with_len 0 (k + 1))

-- ---- helpers

-- the states 2^i for which bit i of a number is set
abbrev pub bit_states : ℕ → ℕ → List ℕ
bit_states n k = filter (λ q. has_bit n (q - 1)) (range_with_len 1 k)

-- one for each one of the binary numeral of 2^k - c
abbrev pub offset_helpers : ℤ → ℕ → List ℕ
offset_helpers bound k = bit_states (2 ^ k - enough_for bound) k

abbrev pub offset_helper_count : ℤ → ℕ → ℕ
offset_helper_count bound k = length (offset_helpers bound k)

-- spare ones are in `0`
abbrev pub all_offset_helpers : ℤ → ℕ → ℕ → List ℕ
all_offset_helpers bound k spare = offset_helpers bound k ++ replicate spare 0

-- there is room for this many spare helpers
abbrev pub HasSpareRoom : ℤ → ℕ → ℕ → Type 0
HasSpareRoom bound k spare = offset_helper_count bound k + spare ≤ HELPER_LIMIT

-- ---- the leaf

abbrev pub flock_leaf_with : List ℤ → Bool → ℕ → ℕ → List ℕ → LeafModel
flock_leaf_with coefs says c k helpers = count_leaf coefs says c true (2 ^ k) (power_worths k) k helpers

-- for `x >= 2^k`
abbrev pub flock_leaf_of : List ℤ → ℕ → LeafModel
flock_leaf_of coefs k = flock_leaf_with coefs true (2 ^ k) k []

-- for an atom that counts its agents, with this many spare helpers
abbrev pub offset_leaf_of : List ℤ → ℤ → ℕ → ℕ → LeafModel
offset_leaf_of coefs bound k spare =
    flock_leaf_with coefs (says_enough bound) (enough_for bound) k (all_offset_helpers bound k spare)
