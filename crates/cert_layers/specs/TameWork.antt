-- How many moves the test of tame layers compares at the most.
use Rattle.std.specs.Prelude.{ℕ, ◌+◌, ◌*◌, ◌≤◌, Bool, List, [], ◌∷◌, ℤ, slice_get, length, count_by, sum_by}
use Rattle.pop_leaf.specs.LeafModel.{LeafModel}
use Rattle.cert_base.specs.declared.layer.Layer.{Layer}
use Rattle.cert_base.specs.TameLayers.{TameLayers}
use Rattle.cert_layers.specs.declared.work.TheConstants.{TAME_WORK_LIMIT}
use Rattle.cert_layers.specs.Search.{some_move, is_higher_after}

-- whether the move with number n raises these weights
abbrev pub raises_weights : LeafModel → List ℤ → ℕ → Bool
raises_weights leaf w n = some_move (is_higher_after w) (slice_get leaf.moves n)

-- the moves of a later layer that raise the weights of a layer, times the moves that this one lists
abbrev pub work_between : LeafModel → Layer → Layer → ℕ
work_between leaf layer later = count_by (raises_weights leaf layer.weights) later.moves * length layer.moves

-- the sum of that, over all layers and all later ones
abbrev pub tame_work : LeafModel → List Layer → ℕ
tame_work leaf [] = 0
tame_work leaf (layer ∷ later) = sum_by (work_between leaf layer) later + tame_work leaf later

-- tame layers, told apart from others by no more work than the limit
pub record AreTameInTime (leaf : LeafModel) (layers : List Layer) : Type 0 where
  pub tame : TameLayers leaf layers
  pub in_time : tame_work leaf layers ≤ TAME_WORK_LIMIT
