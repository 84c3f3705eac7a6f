-- The proof of a built leaf of `Rest` is within the limits.
use Rattle.std.proofs.Common.{◌≡◌, ◌⊎◌, inl, inr, ℕ, ◌+◌, ◌<◌, ◌≤◌, Bool, true, false, List, [], ◌∷◌, length, arith}
use Rattle.std.specs.Prelude.{ℤ, All, if◌then◌else◌, nat_lt, ◌==◌, slice_index_or}
use Rattle.std.specs.List.{range_with_len}
use Rattle.std.proofs.lemmas.Bool.{lt-ltb, le-ltb, cases_lt}
use Rattle.std.proofs.lemmas.List.FromFn.{length-map-range_with_len}
use Rattle.std.proofs.lemmas.List.Elements.{All-nil, All-cons, All-map}
use Rattle.pop_leaf.specs.LeafModel.{LeafModel, IsLeaf}
use Rattle.cert_base.specs.declared.layer.Layer.{Layer}
use Rattle.cert_base.specs.declared.node.Node.TheVariants.{Residue}
use Rattle.cert_base.specs.Rows.{terms_from}
use Rattle.cert_base.specs.FactsAndCases.{differs, indicator}
use Rattle.cert_base.specs.ProofLimits.{IsSmall, IsNodeWithin, IsLayerWithin, AreNodesWithin}
use Rattle.comp_trees.specs.LeaderTree.{company_of, mix_of_leader, value_mix, wrong_mix, weighed_node}
use Rattle.comp_trees.specs.SortedLayers.{leader_kind, sorted_layer}
use Rattle.comp_trees.proofs.Limits.{mix-small, leader-within, leader-within_terms, tree-within, sign-small}
use Rattle.comp_trees.proofs.LayerLimits.{layer-within}
use Rattle.comp_remainder.specs.RemainderLeaf.{remainder_output, remainder_state_name, remainder_leaf_of}
use Rattle.comp_remainder.proofs.Trees.{is_led}
use Rattle.comp_remainder.specs.RemainderProof.{remainder_value, opened_by, remainder_leader_node, remainder_tree}
use Rattle.comp_remainder.specs.RemainderLayers.{indicator_weights, remainder_layers}
use Rattle.base_laws.proofs.Ranges.{all_range}

value-small : (m q : ℕ) → m ≤ 200 → IsSmall (remainder_value m q)
value-small m q few = go (cases_lt q m)
  where
    go : (q < m) ⊎ (m ≤ q) → IsSmall (remainder_value m q)
    go (inl l) = let e = lt-ltb q m l in rw e (omega arith)
    go (inr l) = let e = le-ltb q m l in rw e (omega arith)

opened-small : (b : Bool) → IsSmall (opened_by b)
opened-small true = omega arith
opened-small false = omega arith

bit-small : (b : Bool) → IsSmall (indicator b)
bit-small true = omega arith
bit-small false = omega arith

module _ (coefs : List ℤ) (m rest spare : ℕ) (low : 2 ≤ m) (high : m ≤ 200) (below : rest < m) (formed : IsLeaf (remainder_leaf_of coefs m rest spare)) where
  abbrev leaf : LeafModel
  leaf = remainder_leaf_of coefs m rest spare

  states_long : length leaf.states ≡ m + 2
  states_long = length-map-range_with_len (remainder_state_name m) 0 (m + 2)

  abbrev one : ℕ → (ℕ → Bool) → Layer
  one i test = sorted_layer leaf.moves (leader_kind m) i (indicator_weights m test)

  within : (i : ℕ) (test : ℕ → Bool) → IsLayerWithin (one i test)
  within i test =
      layer-within leaf.moves (leader_kind m) i (indicator_weights m test) formed.move_count (omega (arith, length-map-range_with_len (λ q. indicator (test q)) 0 (m + 2)))
      (All-map IsSmall (λ q. indicator (test q)) (range_with_len 0 (m + 2)) (all_range (λ q. IsSmall (indicator (test q))) 0 (m + 2) (λ q l k. bit-small (test q))))

  value-node : (b : Bool) (p : ℕ) → p < m → IsNodeWithin (Residue m (terms_from 0 (mix_of_leader leaf (company_of leaf p) (value_mix (remainder_value m) (opened_by b) p) p)))
  value-node b p l =
      let mix = value_mix (remainder_value m) (opened_by b) p in
      (low, high, leader-within_terms leaf p mix formed (omega (arith, states_long)) (mix-small leaf p mix (λ q k. value-small m q high) (omega arith) (opened-small b) (λ q k. value-small m q high) (value-small m p high)))

  wrong-node : (b : Bool) (p : ℕ) → p < m → IsNodeWithin (weighed_node (mix_of_leader leaf (company_of leaf p) (wrong_mix leaf b) p))
  wrong-node b p l =
      let mix = wrong_mix leaf b in
      leader-within leaf p mix formed (omega (arith, states_long)) (mix-small leaf p mix (λ q k. omega arith) (omega arith) (omega arith) (λ q k. sign-small (differs b (slice_index_or leaf.outputs q false))) (omega arith))

  node : (b : Bool) (p : ℕ) → p < m → IsNodeWithin (remainder_leader_node leaf m rest b p)
  node b p l = go (differs b (remainder_output m rest p)) (value-node b p l) (wrong-node b p l)
    where
      go : (c : Bool) → IsNodeWithin (Residue m (terms_from 0 (mix_of_leader leaf (company_of leaf p) (value_mix (remainder_value m) (opened_by b) p) p))) → IsNodeWithin (weighed_node (mix_of_leader leaf (company_of leaf p) (wrong_mix leaf b) p)) → IsNodeWithin (if c then Residue m (terms_from 0 (mix_of_leader leaf (company_of leaf p) (value_mix (remainder_value m) (opened_by b) p) p)) else weighed_node (mix_of_leader leaf (company_of leaf p) (wrong_mix leaf b) p))
      go true v w = v
      go false v w = w

  pub layers-within : All IsLayerWithin (remainder_layers leaf m)
  layers-within =
      All-cons IsLayerWithin (one 0 (λ q. nat_lt q m)) (one 1 (λ q. q == m) ∷ one 2 (λ q. q == m + 1) ∷ []) (within 0 (λ q. nat_lt q m))
      (All-cons IsLayerWithin (one 1 (λ q. q == m)) (one 2 (λ q. q == m + 1) ∷ []) (within 1 (λ q. q == m))
      (All-cons IsLayerWithin (one 2 (λ q. q == m + 1)) [] (within 2 (λ q. q == m + 1)) (All-nil IsLayerWithin)))

  pub nodes-within : (b : Bool) → AreNodesWithin (remainder_tree leaf m rest b)
  nodes-within b = tree-within leaf m (remainder_leader_node leaf m rest b) formed (is_led coefs m rest spare low high below formed) (node b)
