-- RemainderLayers: the layers for a built leaf of `Rest`.
use Rattle.std.specs.Prelude.{ℕ, ◌+◌, Bool, ◌==◌, nat_lt, List, [], ◌∷◌, ℤ, map}
use Rattle.std.specs.List.{range_with_len}
use Rattle.pop_leaf.specs.LeafModel.{LeafModel}
use Rattle.cert_base.specs.declared.layer.Layer.{Layer}
use Rattle.cert_base.specs.FactsAndCases.{indicator}
use Rattle.comp_trees.specs.SortedLayers.{sorted_layers, leader_kind}
use Rattle.comp_remainder.specs.RemainderLeaf.{remainder_state_count}

-- 1 for each state that passes the test
abbrev pub indicator_weights : ℕ → (ℕ → Bool) → List ℤ
indicator_weights m test = map (λ q. indicator (test q)) (range_with_len 0 (remainder_state_count m))

-- first the meetings of leaders, then the turns from false to true, then those from true to false
abbrev pub all_weights : ℕ → List (List ℤ)
all_weights m =
    indicator_weights m (λ q. nat_lt q m) ∷ indicator_weights m (λ q. q == m) ∷ indicator_weights m (λ q. q == m + 1)
    ∷ []

abbrev pub remainder_layers : LeafModel → ℕ → List Layer
remainder_layers leaf m = sorted_layers leaf.moves (leader_kind m) 0 (all_weights m)
