-- SomeLayers: layers of some moves of a leaf.
use Rattle.std.specs.Prelude.{ℕ, ◌*◌, ◌<◌, ◌≤◌, List, length, All, Result, IfOk}
use Rattle.pop_io.specs.declared.failure.Failure.{Failure}
use Rattle.pop_leaf.specs.LeafModel.{LeafModel}
use Rattle.pop_leaf.specs.Step.{LeafStep}
use Rattle.pop_leaf.specs.Reachable.{ReachedWithin}
use Rattle.pop_leaf.specs.Laws.{NoneCanTake}
use Rattle.cert_base.specs.declared.layer.Layer.{Layer}
use Rattle.cert_base.specs.ValidLayers.{moves_of_layers}
use Rattle.cert_layers.specs.declared.fault.LayerWhy.{LayerWhy}
use Rattle.cert_layers.specs.LayerFaults.{ChecksLayers}
use Rattle.cert_sets.specs.Layered.{layered}

-- from every crowd of at least two agents, at most k steps of the leaf for each agent lead to a crowd in which none of
-- these moves is possible
abbrev pub ComesToNone : LeafModel → List ℕ → ℕ → Type 0
ComesToNone leaf moves k =
    (crowd : List ℕ) → 2 ≤ length crowd → All (λ q. q < length leaf.states) crowd
    → (end : List ℕ) × NoneCanTake leaf moves end × ReachedWithin (LeafStep leaf) (k * length crowd) crowd end

-- what the check of a goal's layers says
pub record ChecksSomeLayers (leaf : LeafModel) (layers : List Layer) (result : Result ℕ (Failure LayerWhy)) : Type 0 where
  -- exactly what `check_layers` says of the leaf with the other moves made silent
  pub of_hushed : ChecksLayers (layered leaf layers) layers result
  -- every crowd of the leaf can reach one in which no move of the layers is possible, within this many steps for each
  -- agent
  pub ends : IfOk result (ComesToNone leaf (moves_of_layers layers))
