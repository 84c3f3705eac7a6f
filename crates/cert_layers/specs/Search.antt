-- Tests of the moves of a leaf with layers.
use Rattle.std.specs.Prelude.{ℕ, Bool, false, not, ◌&&◌, List, [], ℤ, ◌+ℤ◌, int_lt, Option, Some, None, is_some}
use Rattle.std.specs.Prelude.{slice_get}
use Rattle.std.specs.List.{slice_index_or}
use Rattle.pop_leaf.specs.declared.leaf.Move.{Move}
use Rattle.pop_leaf.specs.LeafModel.{LeafModel, silent_move}
use Rattle.cert_base.specs.declared.layer.Layer.{Layer}
use Rattle.cert_base.specs.ValidLayers.{weight_at}
use Rattle.cert_layers.specs.MoveLayers.{layer_of}

-- a layer without moves, for the numbers past the last layer
abbrev pub no_layer : Layer
no_layer = record { moves = []; weights = [] }

abbrev pub numbered_layer : List Layer → ℕ → Layer
numbered_layer layers i = slice_index_or layers i no_layer

-- whether there is a move, it is not silent, and it passes the test
abbrev pub some_move : (Move → Bool) → Option Move → Bool
some_move test None = false
some_move test (Some t) = not (silent_move t) && test t

-- whether there is a layer and it passes the test
abbrev pub some_layer : (ℕ → Bool) → Option ℕ → Bool
some_layer test None = false
some_layer test (Some i) = test i

-- whether a non-silent move has number n and stands in no layer
abbrev pub is_unlisted_move : LeafModel → List (Option ℕ) → ℕ → Bool
is_unlisted_move leaf layer_of_move n =
    some_move (λ t. not (is_some (layer_of layer_of_move n))) (slice_get leaf.moves n)

-- whether the states that a move brings weigh less than those it takes
abbrev pub is_lower_after : List ℤ → Move → Bool
is_lower_after w t = int_lt (weight_at w t.r +ℤ weight_at w t.s) (weight_at w t.p +ℤ weight_at w t.q)

-- whether the states that a move brings weigh more than those it takes
abbrev pub is_higher_after : List ℤ → Move → Bool
is_higher_after w t = int_lt (weight_at w t.p +ℤ weight_at w t.q) (weight_at w t.r +ℤ weight_at w t.s)

-- whether a non-silent move has number n, stands in a layer, and doesn't lower its weights
abbrev pub not_lower : LeafModel → List Layer → List (Option ℕ) → ℕ → Bool
not_lower leaf layers layer_of_move n =
    some_move (λ t. some_layer (λ i. not (is_lower_after (numbered_layer layers i).weights t)) (layer_of layer_of_move n))
    (slice_get leaf.moves n)
