-- The first place at which the layers of a leaf fail.
use Rattle.std.specs.Prelude.{◌≡◌, ◌≢◌, ℕ, ◌+◌, ◌<◌, ◌≤◌, ◌*◌, false, ℤ, nat_abs, List, Some, slice_get, length, take}
use Rattle.std.specs.Prelude.{All, AllPairs, Contains, Result, IfOk}
use Rattle.pop_io.specs.declared.failure.Failure.{Failure}
use Rattle.pop_io.specs.Failures.{IfFault, OnlyMemory}
use Rattle.pop_leaf.specs.declared.leaf.Move.{Move}
use Rattle.pop_leaf.specs.LeafModel.{LeafModel, silent_move}
use Rattle.pop_leaf.specs.Step.{LeafStep}
use Rattle.pop_leaf.specs.Reachable.{ReachedWithin}
use Rattle.pop_leaf.specs.Terminal.{IsTerminal}
use Rattle.cert_base.specs.declared.limits.TheConstants.{LAYER_LIMIT, SIZE_LIMIT}
use Rattle.cert_base.specs.declared.layer.Layer.{Layer}
use Rattle.cert_base.specs.ProofBound.{layers_bound}
use Rattle.cert_base.specs.ValidLayers.{moves_of_layers, IsInLayer, IsLower, IsEnabledBefore, ValidLayers}
use Rattle.cert_layers.specs.declared.fault.LayerWhy.{LayerWhy}
use Rattle.cert_layers.specs.declared.fault.LayerWhy.TheVariants.{Shape, NoLayer, NotLower, Wakes}

-- layer n, if there is one, has one weight per state and lists move numbers, and up to it no number is listed twice
pub record IsShaped (leaf : LeafModel) (layers : List Layer) (n : ℕ) (layer : Layer) : Type 0 where
  pub weights : length layer.weights ≡ length leaf.states
  pub in_range : All (λ number. number < length leaf.moves) layer.moves
  pub once : AllPairs ◌≢◌ (moves_of_layers (take (n + 1) layers))

abbrev pub ShapedAt : LeafModel → List Layer → ℕ → Type 0
ShapedAt leaf layers n = (layer : Layer) → slice_get layers n ≡ Some layer → IsShaped leaf layers n layer

-- a non-silent move with number n is listed
abbrev pub ListedAt : LeafModel → List Layer → ℕ → Type 0
ListedAt leaf layers n =
    (t : Move) → slice_get leaf.moves n ≡ Some t → silent_move t ≡ false → Contains (moves_of_layers layers) n

-- a non-silent move with number n lowers the weights of its layer
abbrev pub LowerAt : LeafModel → List Layer → ℕ → Type 0
LowerAt leaf layers n = (i : ℕ) (t : Move) (at : IsInLayer leaf layers i t) → at.number ≡ n → IsLower at.layer.weights t

-- a move t of layer i doesn't enable a move u, unless a move of a layer before i was already enabled
abbrev pub WakesNone : LeafModel → List Layer → ℕ → Move → Move → Type 0
WakesNone leaf layers i t u = (k : ℕ) × (u' : Move) × (k < i) × IsInLayer leaf layers k u' × IsEnabledBefore u' t u

-- the move with number n doesn't wake the move with number m of an earlier layer
abbrev pub SleepsAt : LeafModel → List Layer → ℕ → ℕ → Type 0
SleepsAt leaf layers n m =
    (i j : ℕ) (t u : Move) → j < i → (at : IsInLayer leaf layers i t) → at.number ≡ n
    → (earlier : IsInLayer leaf layers j u) → earlier.number ≡ m
    → WakesNone leaf layers i t u

abbrev pub Each : (ℕ → Type 0) → Type 0
Each P = (k : ℕ) → P k

-- n is the least number at which P fails
abbrev pub IsFirstFailing : (ℕ → Type 0) → ℕ → Type 0
IsFirstFailing P n = ¬ (P n) × ((k : ℕ) → k < n → P k)

-- the first place at which the layers fail: all of a kind come before those of the next kind
abbrev pub AreBrokenFirst : LeafModel → List Layer → LayerWhy → Type 0
AreBrokenFirst leaf layers (Shape n) = IsFirstFailing (ShapedAt leaf layers) n
AreBrokenFirst leaf layers (NoLayer n) = Each (ShapedAt leaf layers) × IsFirstFailing (ListedAt leaf layers) n
AreBrokenFirst leaf layers (NotLower n) =
    Each (ShapedAt leaf layers) × Each (ListedAt leaf layers) × IsFirstFailing (LowerAt leaf layers) n
AreBrokenFirst leaf layers (Wakes n m) =
    Each (ShapedAt leaf layers) × Each (ListedAt leaf layers) × Each (LowerAt leaf layers)
    × IsFirstFailing (λ t. Each (SleepsAt leaf layers t)) n
    × IsFirstFailing (SleepsAt leaf layers n) m

-- a weight within the limits of a proof
abbrev pub IsWeight : ℤ → Type 0
IsWeight w = nat_abs w ≤ SIZE_LIMIT

-- layers within the limits of a proof
pub record AreLayersWithin (layers : List Layer) : Type 0 where
  pub few : length layers ≤ LAYER_LIMIT
  pub small : All (λ layer. All IsWeight layer.weights) layers

-- from every crowd of at least two agents, a terminal crowd is reached within k steps for each agent
abbrev pub EndsWithin : LeafModel → ℕ → Type 0
EndsWithin leaf k =
    (crowd : List ℕ) → 2 ≤ length crowd → All (λ q. q < length leaf.states) crowd
    → (end : List ℕ) × IsTerminal (LeafStep leaf) end
    × ReachedWithin (LeafStep leaf) (k * length crowd) crowd end

-- what `check_layers` says: the layers are valid, with their bound; or this is where they fail first
pub record ChecksLayers (leaf : LeafModel) (layers : List Layer) (result : Result ℕ (Failure LayerWhy)) : Type 0 where
  pub valid : IfOk result (λ bound. ValidLayers leaf layers × (bound ≡ layers_bound layers))
  pub fault : IfFault result (AreBrokenFirst leaf layers)
  pub accepts : ValidLayers leaf layers → OnlyMemory result
  -- every crowd of the leaf can reach a terminal one, within this many steps for each agent
  pub ends : IfOk result (EndsWithin leaf)
