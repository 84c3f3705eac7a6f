-- The layer of each move.
use Rattle.std.specs.Prelude.{◌≡◌, ℕ, ◌==◌, ◌&&◌, not, nat_lt, List, [], ◌∷◌, length, Contains}
use Rattle.std.specs.Prelude.{Option, Some, None, is_some, if◌then◌else◌, option_and_then, Result, Ok, Err, slice_get}
use Rattle.std.specs.List.{slice_index_or, slice_set}
use Rattle.pop_leaf.specs.LeafModel.{LeafModel}
use Rattle.cert_base.specs.declared.layer.Layer.{Layer}
use Rattle.cert_layers.specs.LayerFaults.{Each, ShapedAt, IsFirstFailing}
use Rattle.pop_io.specs.declared.failure.Failure.{Failure}
use Rattle.pop_io.specs.declared.failure.Failure.TheVariants.{Fault, NoMemory}
use Rattle.cert_layers.specs.declared.fault.LayerWhy.{LayerWhy}
use Rattle.cert_layers.specs.declared.fault.LayerWhy.TheVariants.{Shape}

abbrev pub layer_of : List (Option ℕ) → ℕ → Option ℕ
layer_of layer_of_move n = slice_index_or layer_of_move n None

-- the layers of the moves so far, with move n put into this one, unless there is no such move or it has a layer
abbrev pub enter : List (Option ℕ) → ℕ → ℕ → Option (List (Option ℕ))
enter layer_of_move layer n =
    if nat_lt n (length layer_of_move)
    && not (is_some (layer_of layer_of_move n)) then Some (slice_set layer_of_move n (Some layer)) else None

abbrev pub enter_all : List (Option ℕ) → ℕ → List ℕ → Option (List (Option ℕ))
enter_all layer_of_move layer [] = Some layer_of_move
enter_all layer_of_move layer (n ∷ ns) = option_and_then (λ more. enter_all more layer ns) (enter layer_of_move layer n)

-- the layers of the moves so far, with the moves of layer i entered; None if the layer is out of shape
abbrev pub entered_layer : ℕ → List (Option ℕ) → ℕ → Layer → Option (List (Option ℕ))
entered_layer states layer_of_move i layer =
    if length layer.weights == states then enter_all layer_of_move i layer.moves else None

-- each move's layer, if one lists it; all layers have their shape
pub record AreMoveLayers (leaf : LeafModel) (layers : List Layer) (layer_of_move : List (Option ℕ)) : Type 0 where
  pub long : length layer_of_move ≡ length leaf.moves
  pub listed_in : (n i : ℕ) → layer_of layer_of_move n ≡ Some i
      → (layer : Layer) × (slice_get layers i ≡ Some layer) × Contains layer.moves n
  pub placed : (n i : ℕ) (layer : Layer) → slice_get layers i ≡ Some layer → Contains layer.moves n
      → layer_of layer_of_move n ≡ Some i
  pub shaped : Each (ShapedAt leaf layers)

abbrev pub FindsMoveLayers : LeafModel → List Layer → Result (List (Option ℕ)) (Failure LayerWhy) → Type 0
FindsMoveLayers leaf layers (Ok layer_of_move) = AreMoveLayers leaf layers layer_of_move
FindsMoveLayers leaf layers (Err (Fault (Shape n))) = IsFirstFailing (ShapedAt leaf layers) n
FindsMoveLayers leaf layers (Err NoMemory) = Unit {0}
FindsMoveLayers leaf layers (Err _) = ⊥
