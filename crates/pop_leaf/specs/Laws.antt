-- Laws: what a hushed leaf has of its leaf.
use Rattle.std.specs.Prelude.{◌≡◌, ◌≢◌, ◌↔◌, ℕ, ◌<◌, false, List, length, Some, slice_get, Contains}
use Rattle.pop_leaf.specs.declared.leaf.Move.{Move}
use Rattle.pop_leaf.specs.LeafModel.{LeafModel, IsLeaf, silent_move}
use Rattle.pop_leaf.specs.Step.{LeafStep}
use Rattle.pop_leaf.specs.Terminal.{IsTerminal}
use Rattle.pop_leaf.specs.Hushed.{hushed}

-- t is a kept move that isn't silent, and has this number
pub record IsKeptMove (leaf : LeafModel) (kept : List ℕ) (number : ℕ) (t : Move) : Type 0 where
  pub kept_is : Contains kept number
  pub move_is : slice_get leaf.moves number ≡ Some t
  pub non_silent : silent_move t ≡ false

-- no two agents hold the states that a kept move takes
abbrev pub NoneCanTake : LeafModel → List ℕ → List ℕ → Type 0
NoneCanTake leaf kept crowd =
    (number a b : ℕ) (t : Move) → IsKeptMove leaf kept number t → a ≢ b
    → slice_get crowd a ≡ Some t.p → slice_get crowd b ≢ Some t.q

-- what holds of each leaf and each list of moves that are kept
pub record LeavesAreHushed : Type 0 where
  -- it is a leaf
  pub formed : (leaf : LeafModel) (kept : List ℕ) → IsLeaf leaf → IsLeaf (hushed leaf kept)
  -- its moves that aren't silent are the kept ones of the leaf, with their numbers
  pub moves : (leaf : LeafModel) (kept : List ℕ) (number : ℕ) (t : Move)
      → ((slice_get (hushed leaf kept).moves number ≡ Some t) × (silent_move t ≡ false)) ↔ IsKeptMove leaf kept number t
  -- its steps are steps of the leaf
  pub steps : (leaf : LeafModel) (kept before after : List ℕ) → LeafStep (hushed leaf kept) before after
      → LeafStep leaf before after
  -- if all moves are kept, it is the leaf
  pub all : (leaf : LeafModel) (kept : List ℕ) → ((number : ℕ) → number < length leaf.moves → Contains kept number)
      → hushed leaf kept ≡ leaf
  -- if all moves are kept that aren't silent, it has all steps of the leaf
  pub loud : (leaf : LeafModel) (kept : List ℕ)
      → ((number : ℕ) (t : Move) → slice_get leaf.moves number ≡ Some t → silent_move t ≡ false → Contains kept number)
      → (before after : List ℕ) → LeafStep leaf before after → LeafStep (hushed leaf kept) before after
  -- its terminal crowds are those in which no kept move is possible
  pub dead : (leaf : LeafModel) (kept crowd : List ℕ)
      → IsTerminal (LeafStep (hushed leaf kept)) crowd ↔ NoneCanTake leaf kept crowd
