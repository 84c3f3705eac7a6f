-- The agents of a leaf, by their states.
use Rattle.std.specs.Prelude.{◌≡◌, ℕ, ◌<◌, ◌≤◌, ◌↔◌, Bool, true, false, ◌&&◌, ◌==◌, if◌then◌else◌, List}
use Rattle.std.specs.Prelude.{[], length, Option, Some, None, slice_get, slice_set, slice_index_or}
use Rattle.std.specs.Ordering.{nat_cmp}
use Rattle.std.specs.BTreeSet.{BTreeSet, contains}
use Rattle.pop_leaf.specs.declared.leaf.Move.{Move}
use Rattle.pop_settle.specs.Settlement.{CanMake, Then}

abbrev pub group_at : List (BTreeSet ℕ) → ℕ → BTreeSet ℕ
group_at groups q = slice_index_or groups q (record { keys = [] })

-- whether the group of state q has agent x
abbrev pub holds : List (BTreeSet ℕ) → ℕ → ℕ → Bool
holds groups q x = contains nat_cmp (group_at groups q) x

-- each group has the agents that hold its state
abbrev pub AreGroups : List ℕ → List (BTreeSet ℕ) → Type 0
AreGroups states groups = (q x : ℕ) → q < length groups → (holds groups q x ≡ true) ↔ (slice_get states x ≡ Some q)

abbrev pub IsEmptyGroup : List (BTreeSet ℕ) → ℕ → Type 0
IsEmptyGroup groups q = (x : ℕ) → holds groups q x ≡ false

abbrev pub IsLeastOf : List (BTreeSet ℕ) → ℕ → ℕ → Type 0
IsLeastOf groups q a = (holds groups q a ≡ true) × ((x : ℕ) → holds groups q x ≡ true → a ≤ x)

-- the groups have the same agents
abbrev pub AreAlike : List (BTreeSet ℕ) → List (BTreeSet ℕ) → Type 0
AreAlike groups after = (z x : ℕ) → holds after z x ≡ holds groups z x

-- in the group of state q, agent a is now present or absent, and all else is unchanged
abbrev pub Changes : Bool → List (BTreeSet ℕ) → ℕ → ℕ → List (BTreeSet ℕ) → Type 0
Changes there groups q a after =
    (z x : ℕ) → holds after z x ≡ (if (z == q) && (x == a) then there else holds groups z x)

abbrev pub Puts : List (BTreeSet ℕ) → ℕ → ℕ → List (BTreeSet ℕ) → Type 0
Puts groups q a after = Changes true groups q a after

abbrev pub Takes : List (BTreeSet ℕ) → ℕ → ℕ → List (BTreeSet ℕ) → Type 0
Takes groups q a after = Changes false groups q a after

-- a and b are the least agents that can make the move, compared by a and then by b
abbrev pub IsLeastPairFor : List ℕ → Move → ℕ → ℕ → Type 0
IsLeastPairFor states t a b = CanMake states t a b × ((c d : ℕ) → CanMake states t c d → Then c a (d < b) → ⊥)

-- the states after a and b made the move
abbrev pub states_after_move : List ℕ → Move → ℕ → ℕ → List ℕ
states_after_move states t a b = slice_set (slice_set states a t.r) b t.s

-- the least pair has made the move, or there is none that can
abbrev pub IsMade : List ℕ → Move → Option (ℕ × ℕ) → List (BTreeSet ℕ) → Type 0
IsMade states t None groups = AreGroups states groups × ((a b : ℕ) → CanMake states t a b → ⊥)
IsMade states t (Some pair) groups =
    IsLeastPairFor states t pair.0 pair.1 × AreGroups (states_after_move states t pair.0 pair.1) groups
