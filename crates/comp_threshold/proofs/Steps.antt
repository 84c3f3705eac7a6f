-- How many steps per agent the layers of a built leaf of `Less` allow.
use Rattle.std.proofs.Common.{◌≡◌, ◌∙◌, ℕ, ◌+◌, ◌-◌, ◌<◌, ◌≤◌, Bool, true, false, refl, arith}
use Rattle.std.specs.Prelude.{pos, ◌-ℤ◌, ◌≤ℤ◌, nat_abs, nat_lt, if◌then◌else◌}
use Rattle.std.proofs.lemmas.Int.{ints}
use Rattle.std.proofs.lemmas.Bool.{ltb-true}
use Rattle.pop_leaf.specs.LeafModel.{LeafModel}
use Rattle.cert_base.specs.ProofBound.{weights_spread, layers_bound}
use Rattle.cert_base.proofs.WeightBounds.{spread_of}
use Rattle.comp_trees.specs.SortedLayers.{sorted_layer, leader_kind}
use Rattle.comp_trees.proofs.ThreeLayers.{three_layers, chosen_within}
use Rattle.comp_threshold.specs.ThresholdLeaf.{span_of, threshold_place, threshold_follower, threshold_state_count}
use Rattle.comp_threshold.specs.ThresholdProof.{threshold_distance, threshold_first_weight, threshold_false_weight, threshold_true_weight, threshold_weights, threshold_layers}
use Rattle.comp_threshold.proofs.Layers.{first-leader, first-follower, false-leader, false-false, true-leader, true-true}

place_most : (s q : ℕ) → q < threshold_state_count s → threshold_place s q ≤ s + s
place_most s q l = by (nat_lt q (span_of s)) refl (nat_lt q (span_of s + span_of s)) refl
  where
    by : (a : Bool) → nat_lt q (span_of s) ≡ a → (b : Bool) → nat_lt q (span_of s + span_of s) ≡ b → (if a then q else (if b then q - span_of s else q - (span_of s + span_of s))) ≤ s + s
    by true e b f = let k = ltb-true q (span_of s) e in omega (arith, k)
    by false e true f =
        let k = ltb-true q (span_of s + span_of s) f in omega (arith, k)
    by false e false f = omega (arith, l)

first_within : (s q : ℕ) → q < threshold_state_count s → (pos 0 ≤ℤ threshold_first_weight s q) × (threshold_first_weight s q ≤ℤ pos (s + 1))
first_within s q l =
    let p = place_most s q l in
    chosen_within (nat_lt q (span_of s)) (s + 1) (threshold_distance s (threshold_place s q)) (s + 1) (omega arith) (omega (arith, p))

false_within : (s q : ℕ) → (pos 0 ≤ℤ threshold_false_weight s q) × (threshold_false_weight s q ≤ℤ pos 1)
false_within s q = by (nat_lt q (span_of s)) (nat_lt q (span_of s + span_of s))
  where
    by : (a b : Bool) → (pos 0 ≤ℤ (if a then pos 0 else (if b then pos 1 else pos 0))) × ((if a then pos 0 else (if b then pos 1 else pos 0)) ≤ℤ pos 1)
    by true b = (omega (arith, ints), omega (arith, ints))
    by false true = (omega (arith, ints), omega (arith, ints))
    by false false = (omega (arith, ints), omega (arith, ints))

first_spread : (s : ℕ) → weights_spread (threshold_weights s (threshold_first_weight s)) ≡ s + 1
first_spread s =
    spread_of (threshold_first_weight s) (threshold_state_count s) (pos 0) (pos (s + 1)) (threshold_follower s false s) 0 (omega arith) (omega arith)
    (first-follower s s false (omega arith) ∙ (let e : pos (threshold_distance s s) ≡ pos 0 = omega (arith, ints) in e)) (first-leader s 0 (omega arith)) (first_within s)
    ∙ (let e : nat_abs (pos (s + 1) -ℤ pos 0) ≡ s + 1 = omega (arith, ints) in e)

false_spread : (s : ℕ) → weights_spread (threshold_weights s (threshold_false_weight s)) ≡ 1
false_spread s =
    spread_of (threshold_false_weight s) (threshold_state_count s) (pos 0) (pos 1) 0 (threshold_follower s false 0) (omega arith) (omega arith)
    (false-leader s 0 (omega arith)) (false-false s 0 (omega arith)) (λ q l. false_within s q)

true_spread : (s : ℕ) → weights_spread (threshold_weights s (threshold_true_weight s)) ≡ 1
true_spread s =
    spread_of (threshold_true_weight s) (threshold_state_count s) (pos 0) (pos 1) 0 (threshold_follower s true 0) (omega arith) (omega arith)
    (true-leader s 0 (omega arith)) (true-true s 0) (λ q l. chosen_within (nat_lt q (span_of s + span_of s)) 0 1 1 (omega arith) (omega arith))

pub steps_are : (leaf : LeafModel) (s : ℕ) → layers_bound (threshold_layers leaf s) ≡ s + 3
steps_are leaf s =
    let sum : layers_bound (threshold_layers leaf s) ≡ weights_spread (threshold_weights s (threshold_first_weight s)) + weights_spread (threshold_weights s (threshold_false_weight s)) + weights_spread (threshold_weights s (threshold_true_weight s)) = three_layers (sorted_layer leaf.moves (leader_kind (span_of s)) 0 (threshold_weights s (threshold_first_weight s))) (sorted_layer leaf.moves (leader_kind (span_of s)) 1 (threshold_weights s (threshold_false_weight s))) (sorted_layer leaf.moves (leader_kind (span_of s)) 2 (threshold_weights s (threshold_true_weight s))) in
    let a = first_spread s in
    let b = false_spread s in
    let c = true_spread s in
    omega (arith, sum, a, b, c)
