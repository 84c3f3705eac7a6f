-- The proof of a built leaf is within the limits.
use Rattle.std.proofs.Common.{ℕ, ◌+◌, ◌-◌, ◌^◌, ◌<◌, ◌≤◌, Bool, true, false, ◌&&◌, List, [], ◌∷◌, ◌++◌, length, map, arith}
use Rattle.std.specs.Prelude.{ℤ, pos, neg_ℤ, All, if◌then◌else◌, ◌==◌, not}
use Rattle.std.specs.List.{range_with_len}
use Rattle.std.proofs.lemmas.List.{length-append, length-map, length-replicate}
use Rattle.std.proofs.lemmas.List.FromFn.{length-range_with_len, length-map-range_with_len}
use Rattle.std.proofs.lemmas.List.Elements.{All-nil, All-cons, All-append, All-map, All-filter}
use Rattle.std.proofs.lemmas.List.Sums.{length-filter, count_by-le-length}
use Rattle.pop_leaf.specs.LeafModel.{LeafModel}
use Rattle.cert_base.specs.declared.layer.Layer.{Layer}
use Rattle.cert_base.specs.declared.node.Node.{Node}
use Rattle.cert_base.specs.declared.node.Node.TheVariants.{Present, Twin, Siphon, Open}
use Rattle.cert_base.specs.Rows.{zeros}
use Rattle.cert_base.specs.FactsAndCases.{states_of, can_meet_in}
use Rattle.cert_base.specs.ProofLimits.{IsSmall, IsNodeWithin, AreNodesWithin, IsLayerWithin}
use Rattle.comp_trees.specs.LeaderTree.{weighed_node, company_of}
use Rattle.comp_trees.proofs.Limits.{all-zeros, one, nodes-long, nodes-within}
use Rattle.comp_counting.specs.declared.limits.TheConstants.{POWER_LIMIT}
use Rattle.comp_counting.specs.FullState.{flock_weight, counting_layers, converted_mix, start_mix, never_mix}
use Rattle.comp_counting.proofs.Within.{weight-small, mix-within, converted-within, start-within, never-within, full-within}
use Rattle.comp_flock.specs.CountLeaf.{worth_in, count_leaf}
use Rattle.comp_flock.specs.CountProof.{lost_worth, lesser_worth, is_low, kept_worth, ruled_worth, own_worth, with_mix, without_mix, first_mix, prefix_nodes, enough_tree, too_few_tree, count_tree}
use Rattle.comp_flock.specs.Covered.{IsChain}
use Rattle.comp_flock.proofs.WorthLaws.{no-more}
use Rattle.comp_flock.proofs.Formed.{states-long}
use Rattle.base_laws.proofs.Ranges.{all_range}
use Rattle.base_laws.proofs.Numbers.{size-neg}

pub layers-within : (count k : ℕ) → count ≤ 65536 → k ≤ 100 → All IsLayerWithin (counting_layers count k)
layers-within count k few short =
    let weights = map (flock_weight k) (range_with_len 0 (k + 2)) in
    let layer : Layer = record { moves = range_with_len 0 count; weights = weights } in
    All-cons IsLayerWithin layer []
    (record {
      move_count = omega (arith, length-range_with_len 0 count, few);
      moves = all_range (λ number. number < 2 ^ 32) 0 count (λ number l m. omega (arith, m, few));
      weight_count = omega (arith, length-map-range_with_len (flock_weight k) 0 (k + 2), short);
      weights = All-map IsSmall (flock_weight k) (range_with_len 0 (k + 2)) (all_range (λ q. IsSmall (flock_weight k q)) 0 (k + 2) (λ q l m. weight-small k q));
    })
    (All-nil IsLayerWithin)

pub company-short : (leaf : LeafModel) (p : ℕ) → length (company_of leaf p) ≤ length leaf.states
company-short leaf p =
    let few = count_by-le-length (λ q. not (q == p) && can_meet_in leaf p q) (states_of leaf) in
    omega (arith, length-filter (λ q. not (q == p) && can_meet_in leaf p q) (states_of leaf), few, length-range_with_len 0 (length leaf.states))

module _ (keeps : Bool) (ws : List ℕ) (enough c most top k : ℕ) (is : IsChain ws c top k) (reach : enough ≤ c) (within : c ≤ most) (high : most ≤ 2 ^ POWER_LIMIT) (short : k ≤ 78) where
  abbrev w : ℕ → ℕ
  w q = worth_in ws q

  worth-small : (q : ℕ) → q ≤ k + 1 → w q ≤ 2 ^ POWER_LIMIT
  worth-small q l = let a = no-more ws c top k is q l in omega (arith, a, within, high)

  lost-small : (q : ℕ) → q ≤ k + 1 → IsSmall (lost_worth most ws k q)
  lost-small q l = go (q == k + 1)
    where
      go : (b : Bool) → IsSmall (neg_ℤ (pos (if b then most else w q)))
      go true = let b = size-neg most in omega (arith, b, high)
      go false = let a = worth-small q l in let b = size-neg (w q) in omega (arith, a, b)

  lesser-small : (q : ℕ) → q ≤ k + 1 → IsSmall (lesser_worth ws k q)
  lesser-small q l = go (q == k + 1)
    where
      go : (b : Bool) → IsSmall (if b then pos 0 else pos (w q))
      go true = omega arith
      go false = let a = worth-small q l in omega (arith, a)

  kept-small : (p q : ℕ) → q ≤ k + 1 → IsSmall (kept_worth ws p q)
  kept-small p q l = go (is_low ws p q)
    where
      go : (b : Bool) → IsSmall (if b then pos (w q) else pos 0)
      go true = let a = worth-small q l in omega (arith, a)
      go false = omega arith

  ruled-small : (p q : ℕ) → q ≤ k + 1 → IsSmall (ruled_worth most ws k p q)
  ruled-small p q l = go (is_low ws p q)
    where
      go : (b : Bool) → IsSmall (if b then pos 0 else lost_worth most ws k q)
      go true = omega arith
      go false = lost-small q l

  own-small : (q : ℕ) → q ≤ k + 1 → IsSmall (own_worth ws q)
  own-small q l = let a = worth-small q l in omega (arith, a)

  -- of a range of states
  all-small : (f : ℕ → ℤ) → ((q : ℕ) → q ≤ k + 1 → IsSmall (f q)) → (a m : ℕ) → a + m ≤ k + 2 → All IsSmall (map f (range_with_len a m))
  all-small f each a m l = All-map IsSmall f (range_with_len a m) (all_range (λ q. IsSmall (f q)) a m (λ q o n. each q (omega (arith, n, l))))

  low : top ≤ k
  low = is.low

  without-within : IsNodeWithin (weighed_node (without_mix most ws k top))
  without-within =
      let first = neg_ℤ (pos most) ∷ map (own_worth ws) (range_with_len 1 top) in
      let second = map (lost_worth most ws k) (range_with_len (top + 1) (k - top)) in
      mix-within (map (lost_worth most ws k) (range_with_len 0 (k + 2))) (pos 0) (pos 1) (first ++ second) (k + 2) (k + k + 2)
      (omega (arith, length-map-range_with_len (lost_worth most ws k) 0 (k + 2))) (omega (arith, length-append first second, length-map-range_with_len (own_worth ws) 1 top, length-map-range_with_len (lost_worth most ws k) (top + 1) (k - top), low)) (omega (arith, short))
      (all-small (lost_worth most ws k) lost-small 0 (k + 2) (omega arith)) (omega arith) (omega arith)
      (All-append IsSmall first second
      (All-cons IsSmall (neg_ℤ (pos most)) (map (own_worth ws) (range_with_len 1 top)) (let b = size-neg most in omega (arith, b, high)) (all-small (own_worth ws) own-small 1 top (omega (arith, low))))
      (all-small (lost_worth most ws k) lost-small (top + 1) (k - top) (omega (arith, low))))

  first-within : IsNodeWithin (weighed_node (first_mix ws c k))
  first-within =
      mix-within (map (lesser_worth ws k) (range_with_len 0 (k + 2))) (pos 0) (pos 1) (pos c ∷ []) (k + 2) (k + 2)
      (omega (arith, length-map-range_with_len (lesser_worth ws k) 0 (k + 2))) (omega arith) (omega (arith, short))
      (all-small (lesser_worth ws k) lesser-small 0 (k + 2) (omega arith)) (omega arith) (omega arith) (one (pos c) (omega (arith, within, high)))

  pub too-few-within : AreNodesWithin (too_few_tree ws c enough k)
  too-few-within =
      let few : k ≤ 100 = omega (arith, short) in
      let three = weighed_node (never_mix k) ∷ [] in
      let two = weighed_node (start_mix enough k) ∷ three in
      let one = weighed_node (first_mix ws c k) ∷ two in (
        omega arith,
        All-cons IsNodeWithin (Open (k + 2 + 1)) (Siphon ((k + 1) ∷ []) ∷ one) (omega (arith, short))
            (All-cons IsNodeWithin (Siphon ((k + 1) ∷ [])) one (full-within k few)
            (All-cons IsNodeWithin (weighed_node (first_mix ws c k)) two first-within
            (All-cons IsNodeWithin (weighed_node (start_mix enough k)) three (start-within k few enough (omega (arith, reach, within, high)))
            (All-cons IsNodeWithin (weighed_node (never_mix k)) [] (never-within k few) (All-nil IsNodeWithin))))),
      )

  module _ (coefs : List ℤ) (says : Bool) (helpers : List ℕ) where
    abbrev leaf : LeafModel
    leaf = count_leaf coefs says enough keeps c ws k helpers

    with-within : (p : ℕ) → p ≤ k → IsNodeWithin (weighed_node (with_mix leaf most ws k top p))
    with-within p l =
        let company = company_of leaf p in
        let kept = map (kept_worth ws p) (range_with_len 1 top) in
        let ruled = map (ruled_worth most ws k p) company in
        let none = zeros (p - (top + 1)) in
        let first = (pos 0 ∷ kept) ++ none in
        let last = neg_ℤ (own_worth ws p) in
        let second = (pos 0 ∷ ruled) ++ last ∷ [] in
        let few = company-short leaf p in
        mix-within (map (lost_worth most ws k) (range_with_len 0 (k + 2))) (pos 0) (pos 1) (first ++ second) (k + 2) (k + k + k + 6)
        (omega (arith, length-map-range_with_len (lost_worth most ws k) 0 (k + 2)))
        (omega (arith, length-append first second, length-append (pos 0 ∷ kept) none, length-append (pos 0 ∷ ruled) (last ∷ []), length-map-range_with_len (kept_worth ws p) 1 top, length-replicate (p - (top + 1)) (pos 0), length-map company (ruled_worth most ws k p), few, states-long ws k, low, l))
        (omega (arith, short))
        (all-small (lost_worth most ws k) lost-small 0 (k + 2) (omega arith)) (omega arith) (omega arith)
        (All-append IsSmall first second
        (All-append IsSmall (pos 0 ∷ kept) none (All-cons IsSmall (pos 0) kept (omega arith) (all-small (kept_worth ws p) (kept-small p) 1 top (omega (arith, low)))) (all-zeros (p - (top + 1))))
        (All-append IsSmall (pos 0 ∷ ruled) (last ∷ [])
        (All-cons IsSmall (pos 0) ruled (omega arith) (All-map IsSmall (ruled_worth most ws k p) company (All-filter (λ q. not (q == p) && can_meet_in leaf p q) (λ q. IsSmall (ruled_worth most ws k p q)) (states_of leaf) (all_range (λ q. IsSmall (ruled_worth most ws k p q)) 0 (length leaf.states) (λ q o n. ruled-small p q (omega (arith, n, states-long ws k)))))))
        (one last (let a = worth-small p (omega (arith, l)) in let b = size-neg (w p) in omega (arith, a, b)))))

    pub enough-within : AreNodesWithin (enough_tree leaf most ws k top)
    enough-within =
        let few : k ≤ 100 = omega (arith, short) in
        let ends : ℕ → Node = λ p. weighed_node (with_mix leaf most ws k top p) in
        let last = weighed_node (without_mix most ws k top) in
        let front = Open (k + 2 + 1) ∷ Present (k + 1) ∷ map Twin (range_with_len 1 top) in
        let nodes = prefix_nodes leaf most ws k top in
        let back = nodes ++ weighed_node (converted_mix k) ∷ [] in (
          (omega (arith, length-append front back, length-append nodes (weighed_node (converted_mix k) ∷ []), length-map-range_with_len Twin 1 top, nodes-long ends last (top + 1) (k - top), low, short)),
          All-append IsNodeWithin front back
              (All-cons IsNodeWithin (Open (k + 2 + 1)) (Present (k + 1) ∷ map Twin (range_with_len 1 top)) (omega (arith, short))
              (All-cons IsNodeWithin (Present (k + 1)) (map Twin (range_with_len 1 top)) (omega (arith, short))
              (All-map IsNodeWithin Twin (range_with_len 1 top) (all_range (λ q. q < 2 ^ 16) 1 top (λ q l m. omega (arith, m, low, short))))))
              (All-append IsNodeWithin nodes (weighed_node (converted_mix k) ∷ [])
              (nodes-within ends last (k + 1) (top + 1) (k - top) (omega (arith, low)) (omega (arith, short)) without-within (λ p l. with-within p (omega (arith, l))))
              (All-cons IsNodeWithin (weighed_node (converted_mix k)) [] (converted-within k few) (All-nil IsNodeWithin))),
        )

    pub tree-within : (says : Bool) → AreNodesWithin (count_tree says leaf most ws c enough k top)
    tree-within true = enough-within
    tree-within false = too-few-within
