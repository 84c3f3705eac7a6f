-- The next take by the moves of a layer.
use Rattle.std.specs.Prelude.{◌≡◌, ℕ, ◌<◌, ◌≤◌, List, length, Option, Some, None, slice_get}
use Rattle.std.specs.BTreeSet.{BTreeSet}
use Rattle.pop_leaf.specs.declared.leaf.Move.{Move}
use Rattle.pop_leaf.specs.LeafModel.{LeafModel}
use Rattle.pop_settle.specs.declared.take.Take.{Take}
use Rattle.pop_settle.specs.Settlement.{CanMake}
use Rattle.pop_settle.specs.Groups.{AreGroups, IsLeastPairFor, states_after_move}

-- no agents can make the move at place k of a list
abbrev pub IsIdle : LeafModel → List ℕ → List ℕ → ℕ → Type 0
IsIdle leaf moves states k =
    (step : ℕ) (t : Move) (a b : ℕ) → slice_get moves k ≡ Some step → slice_get leaf.moves step ≡ Some t
    → CanMake states t a b → ⊥

-- the moves at the places k and j have the same first state
abbrev pub BeginAlike : LeafModel → List ℕ → ℕ → ℕ → Type 0
BeginAlike leaf moves k j =
    (step step' : ℕ) (t t' : Move) → slice_get moves k ≡ Some step → slice_get leaf.moves step ≡ Some t
    → slice_get moves j ≡ Some step'
    → slice_get leaf.moves step' ≡ Some t' → t'.p ≡ t.p

-- from place k up to place end, which is after it, all moves have the same first state
pub record IsStretch (leaf : LeafModel) (moves : List ℕ) (k end : ℕ) : Type 0 where
  pub behind : k < end
  pub within : end ≤ length moves
  pub alike : (j : ℕ) → k ≤ j → j < end → BeginAlike leaf moves k j

-- such an end for each place
pub record AreRunEnds (leaf : LeafModel) (moves ends : List ℕ) : Type 0 where
  pub long : length ends ≡ length moves
  pub runs : (k end : ℕ) → slice_get ends k ≡ Some end → IsStretch leaf moves k end

-- the take is the first of the list, by the least agents
pub record IsFirstTake (leaf : LeafModel) (moves states : List ℕ) (take : Take) : Type 0 where
  pub place : ℕ
  pub move : Move
  pub step_is : slice_get moves place ≡ Some take.step
  pub move_is : slice_get leaf.moves take.step ≡ Some move
  pub least : IsLeastPairFor states move take.a take.b
  pub idle : (k : ℕ) → k < place → IsIdle leaf moves states k

-- the first take of the list was made, or there is none
abbrev pub FindsTake : LeafModel → ℕ → List ℕ → List ℕ → Option Take → List (BTreeSet ℕ) → Type 0
FindsTake leaf number moves states None groups = AreGroups states groups × ((k : ℕ) → IsIdle leaf moves states k)
FindsTake leaf number moves states (Some take) groups =
    (take.leaf ≡ number) × (first : IsFirstTake leaf moves states take)
    × AreGroups (states_after_move states first.move take.a take.b) groups
