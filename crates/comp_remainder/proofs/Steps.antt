-- How many steps per agent the layers of a built leaf of `Rest` allow.
use Rattle.std.proofs.Common.{◌≡◌, ℕ, ◌+◌, ◌≤◌, arith}
use Rattle.std.specs.Prelude.{◌==◌, nat_lt}
use Rattle.std.proofs.lemmas.Bool.{lt-ltb, le-ltb, eq-eqb, ne_eqb}
use Rattle.pop_leaf.specs.LeafModel.{LeafModel}
use Rattle.cert_base.specs.ProofBound.{weights_spread, layers_bound}
use Rattle.comp_trees.specs.SortedLayers.{sorted_layer, leader_kind}
use Rattle.comp_trees.proofs.ThreeLayers.{three_layers, indicator_spread}
use Rattle.comp_remainder.specs.RemainderLayers.{indicator_weights, remainder_layers}

pub steps_are : (leaf : LeafModel) (m : ℕ) → 1 ≤ m → layers_bound (remainder_layers leaf m) ≡ 3
steps_are leaf m some =
    let leaders : weights_spread (indicator_weights m (λ q. nat_lt q m)) ≡ 1 = indicator_spread (λ q. nat_lt q m) (m + 2) m 0 (omega arith) (omega arith) (le-ltb m m (omega arith)) (lt-ltb 0 m (omega (arith, some))) in
    let turned_true : weights_spread (indicator_weights m (λ q. q == m)) ≡ 1 = indicator_spread (λ q. q == m) (m + 2) (m + 1) m (omega arith) (omega arith) (ne_eqb (m + 1) m (λ e. omega (arith, e))) (eq-eqb m m (omega arith)) in
    let turned_false : weights_spread (indicator_weights m (λ q. q == m + 1)) ≡ 1 = indicator_spread (λ q. q == m + 1) (m + 2) m (m + 1) (omega arith) (omega arith) (ne_eqb m (m + 1) (λ e. omega (arith, e))) (eq-eqb (m + 1) (m + 1) (omega arith)) in
    let sum : layers_bound (remainder_layers leaf m) ≡ weights_spread (indicator_weights m (λ q. nat_lt q m)) + weights_spread (indicator_weights m (λ q. q == m)) + weights_spread (indicator_weights m (λ q. q == m + 1)) = three_layers (sorted_layer leaf.moves (leader_kind m) 0 (indicator_weights m (λ q. nat_lt q m))) (sorted_layer leaf.moves (leader_kind m) 1 (indicator_weights m (λ q. q == m))) (sorted_layer leaf.moves (leader_kind m) 2 (indicator_weights m (λ q. q == m + 1))) in
    omega (arith, leaders, turned_true, turned_false, sum)
