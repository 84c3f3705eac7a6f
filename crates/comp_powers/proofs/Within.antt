-- The proof of a built leaf of powers is within the limits.
use Rattle.std.proofs.Common.{◌≡◌, ℕ, ◌+◌, ◌^◌, ◌<◌, ◌≤◌, Bool, true, false, List, [], ◌∷◌, ◌++◌, length, map, refl, arith}
use Rattle.std.specs.Prelude.{ℤ, pos, negsuc, neg_ℤ, All, if◌then◌else◌, ◌==◌, not, ◌&&◌}
use Rattle.std.specs.List.{range_with_len}
use Rattle.std.proofs.lemmas.Option.{slice_get_within}
use Rattle.std.proofs.lemmas.List.{length-append, length-replicate, length-map}
use Rattle.std.proofs.lemmas.List.FromFn.{length-map-range_with_len}
use Rattle.std.proofs.lemmas.List.Elements.{All-nil, All-cons, All-append, All-map, All-filter, All-weaker}
use Rattle.pop_leaf.specs.LeafModel.{LeafModel}
use Rattle.cert_base.specs.declared.node.Node.TheVariants.{Present, Twin, Trap, Open}
use Rattle.cert_base.specs.Rows.{zeros}
use Rattle.cert_base.specs.FactsAndCases.{indicator, states_of, can_meet_in, puts_into, no_moves, no_start_facts, differs}
use Rattle.cert_base.specs.ProofLimits.{IsSmall, IsSetWithin, IsNodeWithin, AreNodesWithin, IsLayerWithin, IsLeafProofWithin}
use Rattle.cert_base.proofs.Indicators.{all_places}
use Rattle.comp_trees.specs.SortedLayers.{sorted_layer}
use Rattle.comp_trees.specs.LeaderTree.{weighed_node, company_of}
use Rattle.comp_trees.proofs.Limits.{weighed-within, all-zeros, one}
use Rattle.base_laws.proofs.Ranges.{all_range}
use Rattle.comp_powers_leaf.specs.declared.role.Role.{Role}
use Rattle.comp_powers_leaf.specs.declared.role.Role.TheVariants.{Low, High, Nothing, Piece, Plus, Debtor, Token}
use Rattle.comp_powers_leaf.specs.PowersLeaf.{coefficient_of, worth, roles, role_at, place, powers_moves, powers_leaf_of, IsPowers, HasRange, HasRoom}
use Rattle.comp_powers_leaf.specs.PowersLayers.{sum_weight, answer_weight, one_if, layer_weights, powers_kind}
use Rattle.comp_powers_leaf.proofs.Places.{role-valid, valid-all}
use Rattle.comp_powers_leaf.specs.PowersLeaf.{IsRole}
use Rattle.comp_powers_leaf.proofs.Moves.{chain-most}
use Rattle.comp_powers_leaf.proofs.Formed.{range_of, states-long, moves-few}
use Rattle.comp_powers.specs.PowersProof.{mix_of, none, by_role, hubs, alone_zero, minus_wrong, credit, minus_ready, twin_places, no_leak_mix, helped_mix, no_hub_mix, high_own, high_mix, low_own, few_mix, low_mix, powers_tree, powers_part}
use Rattle.comp_powers.proofs.Small.{range-small, piece-small, worth-small, owes-small, credit-small}
use Rattle.comp_powers.proofs.Nodes.{tw-below}
use Rattle.comp_powers.proofs.Closing.{places-most, before-few, company-few, few-states}

module _ (coefs : List ℤ) (bound : ℤ) (k spare : ℕ) (is : IsPowers coefs bound k) (room : HasRoom k spare) where
  abbrev here : LeafModel
  here = powers_leaf_of coefs bound k spare

  long : length here.states ≡ length (roles coefs k)
  long = states-long coefs bound k

  range : HasRange coefs k
  range = range_of coefs bound k is

  ready-small : (r : Role) → IsSmall (minus_ready r)
  ready-small Low = omega arith
  ready-small High = omega arith
  ready-small (Nothing b) = omega arith
  ready-small (Piece i b) = omega arith
  ready-small Plus = omega arith
  ready-small (Debtor j) = omega arith
  ready-small (Token j i) = omega arith

  wrong-small : (b : Bool) (q : ℕ) → IsSmall (minus_wrong here b q)
  wrong-small b q = go (differs b _)
    where
      go : (c : Bool) → IsSmall (neg_ℤ (indicator c))
      go true = omega arith
      go false = omega arith

  -- of the states
  by-role : (f : Role → ℤ) → ((r : Role) → IsRole coefs k r → IsSmall (f r)) → (q : ℕ) → q < length here.states → IsSmall (by_role coefs k f q)
  by-role f small q l = small (role_at coefs k q) (role-valid coefs k q (omega (arith, long, l)))

  of-states : (f : ℕ → ℤ) → ((q : ℕ) → q < length here.states → IsSmall (f q)) → All IsSmall (map f (states_of here))
  of-states f small = All-map IsSmall f (states_of here) (all_range (λ q. IsSmall (f q)) 0 (length here.states) (λ q l m. small q (omega arith)))

  of-company : (p : ℕ) (f : ℕ → ℤ) → ((q : ℕ) → q < length here.states → IsSmall (f q)) → All IsSmall (map f (company_of here p))
  of-company p f small = All-map IsSmall f (company_of here p) (All-filter (λ q. not (q == p) && can_meet_in here p q) (λ q. IsSmall (f q)) (states_of here) (all_range (λ q. IsSmall (f q)) 0 (length here.states) (λ q l m. small q (omega arith))))

  of-none : (q : ℕ) → q < length here.states → IsSmall (none q)
  of-none q l = omega arith

  -- ---- a node

  node : (flows : ℕ → ℤ) (wrong opened : ℤ) (own : List ℤ) → ((q : ℕ) → q < length here.states → IsSmall (flows q)) → IsSmall wrong → IsSmall opened → All IsSmall own → length own ≤ 60000 → IsNodeWithin (weighed_node (mix_of here flows wrong opened own))
  node flows wrong opened own fs w o os few =
      let first = map flows (states_of here) in
      let base = first ++ pos 0 ∷ pos 0 ∷ wrong ∷ [] in
      let all_base = All-append IsSmall first (pos 0 ∷ pos 0 ∷ wrong ∷ []) (of-states flows fs) (All-cons IsSmall (pos 0) (pos 0 ∷ wrong ∷ []) (omega arith) (All-cons IsSmall (pos 0) (wrong ∷ []) (omega arith) (one wrong w))) in
      let all = All-append IsSmall (base ++ opened ∷ []) own (All-append IsSmall base (opened ∷ []) all_base (one opened o)) os in
      let states = few-states coefs bound k spare is room in
      weighed-within (mix_of here flows wrong opened own) (omega (arith, length-append (base ++ opened ∷ []) own, length-append base (opened ∷ []), length-append first (pos 0 ∷ pos 0 ∷ wrong ∷ []), length-map-range_with_len flows 0 (length here.states), states, few)) all

  -- two that are no greater than 1
  two : (a b : ℤ) (rest : List ℤ) → IsSmall a → IsSmall b → All IsSmall rest → All IsSmall (a ∷ b ∷ rest)
  two a b rest sa sb all = All-cons IsSmall a (b ∷ rest) sa (All-cons IsSmall b rest sb all)

  leak-within : IsNodeWithin (weighed_node (no_leak_mix here))
  leak-within = node none (pos 0) (pos 0) (pos 1 ∷ []) of-none (omega arith) (omega arith) (one (pos 1) (omega arith)) (omega arith)

  helped-within : IsNodeWithin (weighed_node (helped_mix here))
  helped-within =
      let before = no_moves here (puts_into hubs) ++ no_start_facts here hubs in
      let few = before-few coefs bound k spare is room in
      node none (pos 0) (pos 0) (zeros (length before) ++ pos 0 ∷ negsuc 0 ∷ []) of-none (omega arith) (omega arith)
      (All-append IsSmall (zeros (length before)) (pos 0 ∷ negsuc 0 ∷ []) (all-zeros (length before)) (two (pos 0) (negsuc 0) [] (omega arith) (omega arith) (All-nil IsSmall)))
      (omega (arith, length-append (zeros (length before)) (pos 0 ∷ negsuc 0 ∷ []), length-replicate (length before) (pos 0), few))

  hub-within : IsNodeWithin (weighed_node (no_hub_mix here))
  hub-within = node none (pos 0) (pos 0) (pos 1 ∷ negsuc 0 ∷ negsuc 0 ∷ []) of-none (omega arith) (omega arith) (two (pos 1) (negsuc 0) (negsuc 0 ∷ []) (omega arith) (omega arith) (one (negsuc 0) (omega arith))) (omega arith)

  high-node : (flows out : ℕ → ℤ) (wrong opened : ℤ) → ((q : ℕ) → q < length here.states → IsSmall (flows q)) → IsSmall wrong → IsSmall opened → ((q : ℕ) → q < length here.states → IsSmall (out q)) → IsNodeWithin (weighed_node (mix_of here flows wrong opened (high_own here out)))
  high-node flows out wrong opened fs w o os =
      let company = company-few coefs bound k spare is room 1 in
      let states = few-states coefs bound k spare is room in
      node flows wrong opened (high_own here out) fs w o
      (two (pos 0) (pos 0) (pos 0 ∷ map out (company_of here 1)) (omega arith) (omega arith) (All-cons IsSmall (pos 0) (map out (company_of here 1)) (omega arith) (of-company 1 out os)))
      (omega (arith, length-map (company_of here 1) out, company, states))

  high-within : (b : Bool) → IsNodeWithin (weighed_node (high_mix coefs k here b))
  high-within true =
      let w = by_role coefs k (worth coefs k) in
      high-node w w (pos 0) (pos 1) (by-role (worth coefs k) (worth-small coefs k range)) (omega arith) (omega arith) (by-role (worth coefs k) (worth-small coefs k range))
  high-within false = high-node none (minus_wrong here false) (pos 1) (pos 0) of-none (omega arith) (omega arith) (λ q l. wrong-small false q)

  low-node : (flows out by : ℕ → ℤ) (wrong opened presence : ℤ) (last : List ℤ) → ((q : ℕ) → q < length here.states → IsSmall (flows q)) → IsSmall wrong → IsSmall opened → IsSmall presence → ((q : ℕ) → q < length here.states → IsSmall (out q)) → ((i : ℕ) → i < k → IsSmall (by i)) → All IsSmall last → length last ≤ 513 → IsNodeWithin (weighed_node (mix_of here flows wrong opened (low_own here k presence out by last)))
  low-node flows out by wrong opened presence last fs w o p os bys ls few =
      let company = company-few coefs bound k spare is room 0 in
      let states = few-states coefs bound k spare is room in
      let many = is.power in
      let twins = map by (range_with_len 0 k) in
      let first = presence ∷ map out (company_of here 0) ++ alone_zero here 0 in
      node flows wrong opened (low_own here k presence out by last) fs w o
      (All-cons IsSmall (pos 0) (first ++ (twins ++ last)) (omega arith)
      (All-append IsSmall first (twins ++ last)
      (All-cons IsSmall presence (map out (company_of here 0) ++ alone_zero here 0) p (All-append IsSmall (map out (company_of here 0)) (alone_zero here 0) (of-company 0 out os) (alone-small (can_meet_in here 0 0))))
      (All-append IsSmall twins last (All-map IsSmall by (range_with_len 0 k) (all_range (λ i. IsSmall (by i)) 0 k (λ i l m. bys i (omega arith)))) ls)))
      (omega (arith, length-append first (twins ++ last), length-append (map out (company_of here 0)) (alone_zero here 0), length-map (company_of here 0) out, alone-few (can_meet_in here 0 0), length-append twins last, length-map-range_with_len by 0 k, company, states, many, few))
    where
      alone-small : (c : Bool) → All IsSmall (if c then (pos 0 ∷ []) else [])
      alone-small true = one (pos 0) (omega arith)
      alone-small false = All-nil IsSmall

      alone-few : (c : Bool) → length (if c then (pos 0 ∷ []) else []) ≤ 1
      alone-few true = omega arith
      alone-few false = omega arith

  few-within : IsNodeWithin (weighed_node (few_mix coefs k here))
  few-within =
      low-node (by_role coefs k minus_ready) (λ q. negsuc 0) (λ i. pos 1) (pos 0) (pos 0) (pos 0) (negsuc 0 ∷ [])
      (by-role minus_ready (λ r v. ready-small r)) (omega arith) (omega arith) (omega arith) (λ q l. omega arith) (λ i l. omega arith) (one (negsuc 0) (omega arith)) (omega arith)

  last-small : (f : ℕ → ℤ) → ((q : ℕ) → q < length here.states → IsSmall (f q)) → All IsSmall (pos 0 ∷ map f (company_of here 3))
  last-small f small = All-cons IsSmall (pos 0) (map f (company_of here 3)) (omega arith) (of-company 3 f small)

  last-few : (f : ℕ → ℤ) → length (pos 0 ∷ map f (company_of here 3)) ≤ 513
  last-few f =
      let company = company-few coefs bound k spare is room 3 in
      let states = few-states coefs bound k spare is room in
      omega (arith, length-map (company_of here 3) f, company, states)

  low-within : (b : Bool) → IsNodeWithin (weighed_node (low_mix coefs k here b))
  low-within true =
      let wrong = minus_wrong here true in
      low-node none wrong none (pos 1) (pos 0) (pos 0) (pos 0 ∷ map wrong (company_of here 3)) of-none (omega arith) (omega arith) (omega arith) (λ q l. wrong-small true q) (λ i l. omega arith) (last-small wrong (λ q l. wrong-small true q)) (last-few wrong)
  low-within false =
      let owed_by = by_role coefs k (λ r. neg_ℤ (credit coefs k r)) in
      let small = by-role (λ r. neg_ℤ (credit coefs k r)) (credit-small coefs k range) in
      low-node (by_role coefs k (λ r. neg_ℤ (worth coefs k r))) owed_by (λ i. pos (2 ^ i)) (pos 0) (pos 1) (pos (2 ^ k)) (pos 0 ∷ map owed_by (company_of here 3))
      (by-role (λ r. neg_ℤ (worth coefs k r)) (owes-small coefs k range)) (omega arith) (omega arith) (range-small coefs k range) small (piece-small coefs k range) (last-small owed_by small) (last-few owed_by)

  -- ---- the trees

  twins-within : All IsNodeWithin (map Twin (twin_places coefs k))
  twins-within =
      All-map IsNodeWithin Twin (twin_places coefs k)
      (All-map (λ q. q < 2 ^ 16) (λ i. place coefs k (Piece i true)) (range_with_len 0 k)
      (all_range (λ i. place coefs k (Piece i true) < 2 ^ 16) 0 k (λ i l m. let low = tw-below coefs bound k spare is room i (omega arith) in let states = few-states coefs bound k spare is room in omega (arith, low, states))))

  hubs-within : IsSetWithin hubs
  hubs-within = (omega arith, All-cons (λ q. q < 2 ^ 16) 0 (1 ∷ []) (omega arith) (All-cons (λ q. q < 2 ^ 16) 1 [] (omega arith) (All-nil (λ q. q < 2 ^ 16))), (omega arith, tt))

  pub tree-within : (b : Bool) → AreNodesWithin (powers_tree coefs k here b)
  tree-within b =
      let many = is.power in
      let states = few-states coefs bound k spare is room in
      let twins = map Twin (twin_places coefs k) in
      let low = weighed_node (low_mix coefs k here b) in
      let few = weighed_node (few_mix coefs k here) in
      let end = Present 3 ∷ few ∷ low ∷ [] in
      let high = weighed_node (high_mix coefs k here b) in
      let hub = weighed_node (no_hub_mix here) in
      let helped = weighed_node (helped_mix here) in
      let leak = weighed_node (no_leak_mix here) in
      let a6 = high ∷ (twins ++ end) in
      let a5 = hub ∷ a6 in
      let a4 = Present 1 ∷ a5 in
      let a3 = Present 0 ∷ a4 in
      let a2 = helped ∷ a3 in
      let a1 = leak ∷ a2 in
      let a0 = Trap hubs ∷ a1 in (
        omega (arith, length-append twins end, length-map (twin_places coefs k) Twin, length-map-range_with_len (λ i. place coefs k (Piece i true)) 0 k, many),
        All-cons IsNodeWithin (Open (length here.states + 1)) a0 (omega (arith, states))
            (All-cons IsNodeWithin (Trap hubs) a1 hubs-within
            (All-cons IsNodeWithin leak a2 leak-within
            (All-cons IsNodeWithin helped a3 helped-within
            (All-cons IsNodeWithin (Present 0) a4 (omega arith)
            (All-cons IsNodeWithin (Present 1) a5 (omega arith)
            (All-cons IsNodeWithin hub a6 hub-within
            (All-cons IsNodeWithin high (twins ++ end) (high-within b)
            (All-append IsNodeWithin twins end twins-within
            (All-cons IsNodeWithin (Present 3) (few ∷ low ∷ []) (omega arith)
            (All-cons IsNodeWithin few (low ∷ []) few-within
            (All-cons IsNodeWithin low [] (low-within b) (All-nil IsNodeWithin)))))))))))),
      )

  -- ---- the layers

  layer-within : (i : ℕ) (weight : Role → ℕ) → ((r : Role) → IsRole coefs k r → IsSmall (pos (weight r))) → IsLayerWithin (sorted_layer (powers_moves coefs k) (powers_kind coefs k) i (layer_weights coefs k weight))
  layer-within i weight small =
      let few = moves-few coefs k is.power in
      let states = is.states in
      record {
        move_count = omega (arith, places-most 0 (λ t. powers_kind coefs k t == i) (powers_moves coefs k), few, states);
        moves = all_places (λ number. number < 2 ^ 32) (λ t. powers_kind coefs k t == i) 0 (powers_moves coefs k) (λ j t h e. let l = slice_get_within (powers_moves coefs k) j t h in omega (arith, l, few, states));
        weight_count = omega (arith, length-map (roles coefs k) (λ r. pos (weight r)), states);
        weights = All-map IsSmall (λ r. pos (weight r)) (roles coefs k) weights-at;
      }
    where
      weights-at : All (λ r. IsSmall (pos (weight r))) (roles coefs k)
      weights-at = All-weaker (IsRole coefs k) (λ r. IsSmall (pos (weight r))) small (roles coefs k) (valid-all coefs k)

  answer-small : (b : Bool) (r : Role) → IsSmall (pos (answer_weight b r))
  answer-small b r = go r
    where
      one-most : (c : Bool) → IsSmall (pos (one_if c))
      one-most true = omega arith
      one-most false = omega arith

      go : (r : Role) → IsSmall (pos (answer_weight b r))
      go Low = omega arith
      go High = omega arith
      go (Nothing c) = one-most (if b then c else not c)
      go (Piece i c) = one-most (if b then c else not c)
      go Plus = omega arith
      go (Debtor j) = omega arith
      go (Token j i) = omega arith

  sum-small : (r : Role) → IsRole coefs k r → IsSmall (pos (sum_weight k r))
  sum-small Low v = omega arith
  sum-small High v = omega arith
  sum-small (Nothing b) v = omega arith
  sum-small (Piece i b) v = omega arith
  sum-small Plus v = omega arith
  sum-small (Debtor j) v = let many = is.power in omega (arith, many)
  sum-small (Token j i) v = let many = is.power in let chain = chain-most k (coefficient_of coefs j) in omega (arith, many, chain, v.1)

  pub powers-within : IsLeafProofWithin (length coefs) (powers_part coefs bound k spare)
  powers-within =
      let first = sorted_layer (powers_moves coefs k) (powers_kind coefs k) 0 (layer_weights coefs k (sum_weight k)) in
      let second = sorted_layer (powers_moves coefs k) (powers_kind coefs k) 1 (layer_weights coefs k (answer_weight false)) in
      let third = sorted_layer (powers_moves coefs k) (powers_kind coefs k) 2 (layer_weights coefs k (answer_weight true)) in
      record {
        pred = refl;
        layer_count = omega arith;
        layers = All-cons IsLayerWithin first (second ∷ third ∷ []) (layer-within 0 (sum_weight k) sum-small)
            (All-cons IsLayerWithin second (third ∷ []) (layer-within 1 (answer_weight false) (λ r v. answer-small false r))
            (All-cons IsLayerWithin third [] (layer-within 2 (answer_weight true) (λ r v. answer-small true r)) (All-nil IsLayerWithin)));
        on_true = tree-within true;
        on_false = tree-within false;
      }
