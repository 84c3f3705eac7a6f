-- SortedLayers: layers by the kinds of moves, and the layers of a leaf with leaders: first what changes a leader, then
-- the turns from lower followers to higher ones, then the other turns.
use Rattle.std.specs.Prelude.{◌≡◌, ◌≢◌, ◌<◌, ◌≤◌, ℕ, ◌+◌, false, ◌==◌, nat_lt, if◌then◌else◌, List, [], ◌∷◌, ℤ, All}
use Rattle.std.specs.Prelude.{Contains}
use mathlib.Core.Logic.{◌⊎◌}
use Rattle.pop_leaf.specs.declared.leaf.Move.{Move}
use Rattle.pop_leaf.specs.LeafModel.{LeafModel, silent_move}
use Rattle.cert_base.specs.declared.layer.Layer.{Layer}
use Rattle.cert_base.specs.FactsAndCases.{places_from}

-- the layer of the moves of kind i
abbrev pub sorted_layer : List Move → (Move → ℕ) → ℕ → List ℤ → Layer
sorted_layer moves kind i weights = record { moves = places_from 0 (λ t. kind t == i) moves; weights = weights }

-- one layer for each list of weights, for the kinds from i on
abbrev pub sorted_layers : List Move → (Move → ℕ) → ℕ → List (List ℤ) → List Layer
sorted_layers moves kind i [] = []
sorted_layers moves kind i (weights ∷ rest) = sorted_layer moves kind i weights ∷ sorted_layers moves kind (i + 1) rest

-- with n leaders: 0 if the move changes a leader, 1 if it turns a follower to a higher one, otherwise 2
abbrev pub leader_kind : ℕ → Move → ℕ
leader_kind n t = if nat_lt t.q n then 0 else (if t.r == t.p then (if nat_lt t.q t.s then 1 else 2) else 0)

-- what the layers of a leaf with n leaders rest on
pub record IsLeaderProtocol (leaf : LeafModel) (n : ℕ) : Type 0 where
  -- no move is silent; each takes a leader first and makes a follower second
  pub loud : All (λ t. silent_move t ≡ false) leaf.moves
  pub leads : All (λ t. t.p < n) leaf.moves
  pub follows : All (λ t. n ≤ t.s) leaf.moves
  -- two leaders meet
  pub meet : (p q : ℕ) → p < n → q < n → p ≢ q
      → (u : Move) × Contains leaf.moves u × (u.q < n) × ((u.p ≡ p) × (u.q ≡ q) ⊎ (u.p ≡ q) × (u.q ≡ p))
  -- a leader that turned a follower doesn't change it again
  pub settled : (t u : Move) → Contains leaf.moves t → Contains leaf.moves u → n ≤ t.q → t.r ≡ t.p → u.q ≡ t.s
      → u.p ≢ t.p
