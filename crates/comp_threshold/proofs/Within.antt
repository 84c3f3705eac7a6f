-- The proof of a built leaf of `Less` is within the limits.
use Rattle.std.proofs.Common.{◌≡◌, ℕ, ◌+◌, ◌<◌, ◌≤◌, Bool, true, false, List, [], ◌∷◌, length, refl, arith}
use Rattle.std.specs.Prelude.{ℤ, pos, negsuc, neg_ℤ, ◌<ℤ◌, All, if◌then◌else◌, nat_lt, slice_index_or}
use Rattle.std.specs.List.{range_with_len}
use Rattle.std.proofs.lemmas.Int.{ints}
use Rattle.std.proofs.lemmas.List.FromFn.{length-map-range_with_len}
use Rattle.std.proofs.lemmas.List.Elements.{All-nil, All-cons, All-map}
use Rattle.pop_leaf.specs.LeafModel.{LeafModel, IsLeaf}
use Rattle.pop_io.specs.declared.names.TheConstants.{VARIABLE_LIMIT}
use Rattle.comp_threshold.specs.declared.limits.TheConstants.{WIDTH_LIMIT}
use Rattle.cert_base.specs.declared.layer.Layer.{Layer}
use Rattle.cert_base.specs.FactsAndCases.{differs}
use Rattle.cert_base.specs.ProofLimits.{IsSmall, IsNodeWithin, IsLayerWithin, IsLeafProofWithin}
use Rattle.comp_trees.specs.LeaderTree.{value_mix, wrong_mix, IsLed}
use Rattle.comp_trees.specs.SortedLayers.{leader_kind, sorted_layer}
use Rattle.comp_trees.proofs.Limits.{mix-small, leader-within, tree-within, sign-small}
use Rattle.comp_trees.proofs.LayerLimits.{layer-within}
use Rattle.comp_threshold.specs.ThresholdLeaf.{threshold_width, span_of, place_of_value, threshold_place, threshold_output, threshold_state_count, threshold_state_name, threshold_leaf_of, threshold_value}
use Rattle.comp_threshold.specs.ThresholdProof.{signed_value, threshold_leader_node, threshold_value_node, threshold_wrong_node, threshold_distance, threshold_first_weight, threshold_false_weight, threshold_true_weight, threshold_weights, threshold_part}
use Rattle.comp_threshold.proofs.Places.{kind_of, place-below}
use Rattle.comp_threshold.proofs.Formed.{threshold-formed, threshold-few}
use Rattle.comp_threshold.proofs.Trees.{is_led}
use Rattle.base_laws.proofs.Ranges.{all_range}

small_between : (z : ℤ) → z <ℤ pos 1000 → neg_ℤ (pos 1000) <ℤ z → IsSmall z
small_between (pos n) a b = omega (arith, ints)
small_between (negsuc n) a b = omega (arith, ints)

value-small : (s q : ℕ) (b : Bool) → s ≤ WIDTH_LIMIT → q < threshold_state_count s → IsSmall (signed_value b s q)
value-small s q true few l =
    let p = place-below s q (kind_of s q l) in small_between (threshold_value s q) (omega (arith, ints)) (omega (arith, ints))
value-small s q false few l =
    let p = place-below s q (kind_of s q l) in
    small_between (neg_ℤ (threshold_value s q)) (omega (arith, ints)) (omega (arith, ints))

first-small : (s q : ℕ) → s ≤ WIDTH_LIMIT → q < threshold_state_count s → IsSmall (threshold_first_weight s q)
first-small s q few l = go (nat_lt q (span_of s))
  where
    go : (b : Bool) → IsSmall (if b then pos (s + 1) else pos (threshold_distance s (threshold_place s q)))
    go true = omega arith
    go false = let p = place-below s q (kind_of s q l) in omega arith

bits-small : (a b : Bool) → IsSmall (if a then pos 0 else (if b then pos 1 else pos 0))
bits-small true b = omega arith
bits-small false true = omega arith
bits-small false false = omega arith

bit-small : (a : Bool) → IsSmall (if a then pos 0 else pos 1)
bit-small true = omega arith
bit-small false = omega arith

weights-small : (s : ℕ) (weight : ℕ → ℤ) → ((q : ℕ) → q < threshold_state_count s → IsSmall (weight q)) → All IsSmall (threshold_weights s weight)
weights-small s weight f = All-map IsSmall weight (range_with_len 0 (threshold_state_count s)) (all_range (λ q. IsSmall (weight q)) 0 (threshold_state_count s) (λ q l m. f q (omega arith)))

module _ (coefs : List ℤ) (bound : ℤ) (some : 1 ≤ length coefs) (few : length coefs ≤ VARIABLE_LIMIT) (narrow : threshold_width coefs bound ≤ WIDTH_LIMIT) where
  abbrev s : ℕ
  s = threshold_width coefs bound

  abbrev t : ℕ
  t = place_of_value s bound

  abbrev leaf : LeafModel
  leaf = threshold_leaf_of coefs bound

  formed : IsLeaf leaf
  formed = threshold-formed coefs bound some few narrow

  led : IsLed leaf (span_of s)
  led = is_led coefs bound formed (threshold-few coefs bound few narrow)

  states_long : length leaf.states ≡ threshold_state_count s
  states_long = length-map-range_with_len (threshold_state_name s) 0 (threshold_state_count s)

  abbrev one : ℕ → (ℕ → ℤ) → Layer
  one i weight = sorted_layer leaf.moves (leader_kind (span_of s)) i (threshold_weights s weight)

  within : (i : ℕ) (weight : ℕ → ℤ) → ((q : ℕ) → q < threshold_state_count s → IsSmall (weight q)) → IsLayerWithin (one i weight)
  within i weight f = layer-within leaf.moves (leader_kind (span_of s)) i (threshold_weights s weight) formed.move_count (omega (arith, length-map-range_with_len weight 0 (threshold_state_count s))) (weights-small s weight f)

  value-node : (b : Bool) (p : ℕ) → p < span_of s → IsNodeWithin (threshold_value_node leaf s b p)
  value-node b p l =
      let mix = value_mix (signed_value b s) (pos 1) p in
      leader-within leaf p mix formed (omega (arith, states_long)) (mix-small leaf p mix (λ q m. value-small s q b narrow (omega (arith, states_long))) (omega arith) (omega arith) (λ q m. value-small s q b narrow (omega (arith, states_long))) (value-small s p b narrow (omega arith)))

  wrong-node : (b : Bool) (p : ℕ) → p < span_of s → IsNodeWithin (threshold_wrong_node leaf b p)
  wrong-node b p l =
      let mix = wrong_mix leaf b in
      leader-within leaf p mix formed (omega (arith, states_long)) (mix-small leaf p mix (λ q m. omega arith) (omega arith) (omega arith) (λ q m. sign-small (differs b (slice_index_or leaf.outputs q false))) (omega arith))

  node : (b : Bool) (p : ℕ) → p < span_of s → IsNodeWithin (threshold_leader_node leaf s t b p)
  node b p l = go (differs b (threshold_output s t p)) (value-node b p l) (wrong-node b p l)
    where
      go : (c : Bool) → IsNodeWithin (threshold_value_node leaf s b p) → IsNodeWithin (threshold_wrong_node leaf b p) → IsNodeWithin (if c then threshold_value_node leaf s b p else threshold_wrong_node leaf b p)
      go true v w = v
      go false v w = w

  pub threshold-within : IsLeafProofWithin (length coefs) (threshold_part coefs bound)
  threshold-within = record {
    pred = refl;
    layer_count = omega arith;
    layers = All-cons IsLayerWithin (one 0 (threshold_first_weight s)) (one 1 (threshold_false_weight s) ∷ one 2 (threshold_true_weight s) ∷ []) (within 0 (threshold_first_weight s) (λ q l. first-small s q narrow l))
        (All-cons IsLayerWithin (one 1 (threshold_false_weight s)) (one 2 (threshold_true_weight s) ∷ []) (within 1 (threshold_false_weight s) (λ q l. bits-small (nat_lt q (span_of s)) (nat_lt q (span_of s + span_of s))))
        (All-cons IsLayerWithin (one 2 (threshold_true_weight s)) [] (within 2 (threshold_true_weight s) (λ q l. bit-small (nat_lt q (span_of s + span_of s)))) (All-nil IsLayerWithin)));
    on_true = tree-within leaf (span_of s) (threshold_leader_node leaf s t true) formed led (node true);
    on_false = tree-within leaf (span_of s) (threshold_leader_node leaf s t false) formed led (node false);
  }
