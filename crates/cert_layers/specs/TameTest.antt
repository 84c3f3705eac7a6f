-- The test of tame layers, by the table of pairs of states.
use Rattle.std.specs.Prelude.{ℕ, ◌+◌, ◌==◌, ◌&&◌, ◌||◌, not, Bool, nat_lt, List, length, Option, slice_get}
use Rattle.std.specs.List.{list_any, range_with_len}
use Rattle.pop_leaf.specs.declared.leaf.Move.{Move}
use Rattle.pop_leaf.specs.LeafModel.{LeafModel}
use Rattle.cert_base.specs.declared.layer.Layer.{Layer}
use Rattle.cert_layers.specs.MoveLayers.{layer_of}
use Rattle.cert_layers.specs.Search.{numbered_layer, some_move, some_layer, is_lower_after, is_higher_after}
use Rattle.cert_layers.specs.Waking.{first_at, is_early, wakes_with_state}

-- t brings m, and j is the first layer with a move that takes m and y: it is before layer i, and no move up to j was
-- enabled on what t takes and y
abbrev pub wakes_at_layer : List ℕ → ℕ → Move → ℕ → ℕ → ℕ → Bool
wakes_at_layer table i t m y j = nat_lt j i && wakes_with_state (is_early table (j + 1)) t m y

abbrev pub wakes_low_state : List ℕ → ℕ → Move → ℕ → ℕ → Bool
wakes_low_state table i t m y = wakes_at_layer table i t m y (first_at table m y)

abbrev pub wakes_low_beside : List ℕ → ℕ → Move → ℕ → Bool
wakes_low_beside table i t y = wakes_low_state table i t t.r y || wakes_low_state table i t t.s y

-- whether t, of layer i, enables a move of an earlier layer j while no move up to j is enabled
abbrev pub wakes_low : List ℕ → ℕ → Move → ℕ → Bool
wakes_low table i t states = list_any (wakes_low_beside table i t) (range_with_len 0 states)

abbrev pub stands_at : List Layer → ℕ → Move → ℕ → Bool
stands_at layers i t j = nat_lt j i && not (is_lower_after (numbered_layer layers j).weights t)

-- whether an earlier layer is the first that takes the states of t, of layer i, and t doesn't lower its weights
abbrev pub stands : List Layer → List ℕ → ℕ → Move → Bool
stands layers table i t = stands_at layers i t (first_at table t.p t.q)

-- whether an early move takes two states that differ
abbrev pub apart_states : (ℕ → ℕ → Bool) → ℕ → ℕ → Bool
apart_states early x y = not (x == y) && early x y

-- whether an early move is enabled wherever t and u are
abbrev pub apart_moves : (ℕ → ℕ → Bool) → Move → Move → Bool
apart_moves early t u =
    (early t.p t.q || early u.p u.q)
    || ((apart_states early t.p u.p || apart_states early t.p u.q)
    || (apart_states early t.q u.p || apart_states early t.q u.q))

-- whether the move with number n is of layer i, and may be enabled where u is and no move before layer i
abbrev pub is_beside : LeafModel → List (Option ℕ) → List ℕ → ℕ → Move → ℕ → Bool
is_beside leaf layer_of_move table i u n =
    some_move (λ t. some_layer (λ k. (k == i) && not (apart_moves (is_early table i) t u)) (layer_of layer_of_move n))
    (slice_get leaf.moves n)

-- whether u raises the weights of layer i, beside a move that it lists
abbrev pub raises_layer : LeafModel → List Layer → List (Option ℕ) → List ℕ → Move → ℕ → Bool
raises_layer leaf layers layer_of_move table u i =
    is_higher_after (numbered_layer layers i).weights u
    && list_any (is_beside leaf layer_of_move table i u) (numbered_layer layers i).moves

-- whether u, of layer j, raises the weights of an earlier one so
abbrev pub raises : LeafModel → List Layer → List (Option ℕ) → List ℕ → ℕ → Move → Bool
raises leaf layers layer_of_move table j u =
    list_any (raises_layer leaf layers layer_of_move table u) (range_with_len 0 j)

abbrev pub fights_in : LeafModel → List Layer → List (Option ℕ) → List ℕ → ℕ → Move → Bool
fights_in leaf layers layer_of_move table j u =
    wakes_low table j u (length leaf.states) || (stands layers table j u || raises leaf layers layer_of_move table j u)

-- whether the move with number n fights an earlier layer
abbrev pub fights : LeafModel → List Layer → List (Option ℕ) → List ℕ → ℕ → Bool
fights leaf layers layer_of_move table n =
    some_move (λ u. some_layer (λ j. fights_in leaf layers layer_of_move table j u) (layer_of layer_of_move n))
    (slice_get leaf.moves n)

-- whether a move does
abbrev pub any_fights : LeafModel → List Layer → List (Option ℕ) → List ℕ → Bool
any_fights leaf layers layer_of_move table =
    list_any (fights leaf layers layer_of_move table) (range_with_len 0 (length leaf.moves))
