-- The layer of a built leaf is valid, and how many steps per agent it allows.
use Rattle.std.proofs.Common.{◌≡◌, ◌∙◌, inl, inr, subst, ℕ, zero, suc, ◌+◌, ◌<◌, ◌≤◌, Bool, true, false, List, [], ◌∷◌, length, map, refl, ap, sym, zero-add, arith}
use Rattle.std.specs.Prelude.{ℤ, pos, ◌≤ℤ◌, ◌==◌}
use Rattle.std.specs.List.{range_with_len}
use Rattle.std.proofs.lemmas.Int.{ints}
use Rattle.std.proofs.lemmas.Bool.{cases_eq, eq-eqb, ne_eqb}
use Rattle.std.proofs.lemmas.List.Elements.{All-nil, All-cons}
use Rattle.std.proofs.lemmas.List.FromFn.{length-map-range_with_len, get_or-map-range_with_len}
use Rattle.std.proofs.lemmas.List.Sums.{sum_by-cons}
use Rattle.pop_leaf.specs.declared.leaf.Move.{Move}
use Rattle.pop_leaf.specs.LeafModel.{LeafModel}
use Rattle.cert_base.specs.declared.layer.Layer.{Layer}
use Rattle.cert_base.specs.ProofBound.{weights_spread, layers_bound}
use Rattle.cert_base.specs.ValidLayers.{weight_at, IsLower, ValidLayers}
use Rattle.cert_base.proofs.WeightBounds.{spread_of}
use Rattle.comp_trees.proofs.SortedLayers.{AreKinds, sorted_layers-valid}
use Rattle.cert_base.specs.TameLayers.{TameLayers}
use Rattle.comp_trees.proofs.TameKinds.{one_layer-tame}
use Rattle.comp_trees.proofs.TrapNodes.{places-all}
use Rattle.comp_counting.specs.FullState.{flock_state_count, flock_weight, for_states, counting_layers, offset_steps}
use Rattle.comp_counting.proofs.LayerWeights.{weight-full, weight-power, weight_within, none-within}
use Rattle.comp_flock.specs.CountLeaf.{worth_in, full_move, join_move, count_moves, count_state_name, count_leaf}
use Rattle.comp_flock.specs.Covered.{IsChain}
use Rattle.comp_flock.proofs.MoveLists.{all_moves}
use Rattle.comp_flock.proofs.Meetings.{join-some}

abbrev weights : ℕ → List ℤ
weights k = map (flock_weight k) (range_with_len 0 (k + 2))

weight-is : (k q : ℕ) → q < k + 2 → weight_at (weights k) q ≡ flock_weight k q
weight-is k q l = get_or-map-range_with_len (flock_weight k) 0 (k + 2) q q (pos 0) l (zero-add q)

weight-some : (k q : ℕ) → q ≤ k → pos 1 ≤ℤ flock_weight k q
weight-some k zero l = omega (arith, ints)
weight-some k (suc i) l =
    let e = ap (flock_weight k) (let e : suc i ≡ i + 1 = omega arith in e) ∙ weight-power k i (omega (arith, l)) in
    omega (arith, ints, e)

weight-two : (k q : ℕ) → 1 ≤ q → q ≤ k → flock_weight k q ≡ pos 2
weight-two k zero l m = absurd (omega (arith, l))
weight-two k (suc i) l m = ap (flock_weight k) (let e : suc i ≡ i + 1 = omega arith in e) ∙ weight-power k i (omega (arith, m))

module _ (keeps : Bool) (ws : List ℕ) (c top k : ℕ) (is : IsChain ws c top k) where
  lower-full : (p q : ℕ) → q ≤ p → p ≤ k → IsLower (weights k) (full_move k p q)
  lower-full p q l m =
      let a = weight-is k p (omega (arith, m)) in
      let b = weight-is k q (omega (arith, l, m)) in
      let f = weight-is k (k + 1) (omega arith) ∙ weight-full k in
      let sp = weight-some k p m in
      let sq = weight-some k q (omega (arith, l, m)) in
      omega (arith, ints, a, b, f, sp, sq)

  lower-join : (p q : ℕ) → q ≤ p → p ≤ k → worth_in ws p + worth_in ws q ≡ worth_in ws (p + 1) → IsLower (weights k) (join_move p q)
  lower-join p q l m e =
      let some = join-some keeps ws c top k is p q l m e in
      let a = weight-is k p (omega (arith, m)) ∙ weight-two k p (omega (arith, some, l)) m in
      let b = weight-is k q (omega (arith, l, m)) ∙ weight-two k q some (omega (arith, l, m)) in
      let r = weight-is k (p + 1) (omega (arith, m)) in
      let most = (weight_within k (p + 1)).1 in
      let s = weight-is k 0 (omega arith) in
      omega (arith, ints, a, b, r, most, s)

  lower-conversion : (q : ℕ) → q ≤ k → IsLower (weights k) (full_move k (k + 1) q)
  lower-conversion q l =
      let f = weight-is k (k + 1) (omega arith) ∙ weight-full k in
      let b = weight-is k q (omega (arith, l)) in
      let some = weight-some k q l in
      omega (arith, ints, f, b, some)

  module _ (coefs : List ℤ) (says : Bool) (enough : ℕ) (helpers : List ℕ) where
    abbrev leaf : LeafModel
    leaf = count_leaf coefs says enough keeps c ws k helpers

    are_kinds : AreKinds leaf (λ t. 0) (weights k ∷ [])
    are_kinds = record {
      long = All-cons (λ w. length w ≡ length leaf.states) (weights k) [] (length-map-range_with_len (flock_weight k) 0 (k + 2) ∙ sym (length-map-range_with_len (count_state_name ws) 0 (k + 2))) (All-nil (λ w. length w ≡ length leaf.states));
      kinds = all_moves keeps ws c k (λ t. 0 < 1) (λ p q l m n. omega arith) (λ p q l m e. omega arith) (λ q l. omega arith);
      lower = all_moves keeps ws c k (IsLower (weights k)) (λ p q l m n. lower-full p q l m) (λ p q l m e. lower-join p q l m e) (λ q l. lower-conversion q l);
      wakes = λ t u ct cu lt lu l. absurd (omega (arith, l));
    }

    pub layers-valid : ValidLayers leaf (counting_layers (length leaf.moves) k)
    layers-valid =
        let listed = places-all 0 (λ (t : Move). 0 == 0) (count_moves keeps ws c k) (all_moves keeps ws c k (λ t. true ≡ true) (λ p q l m n. refl) (λ p q l m e. refl) (λ q l. refl)) in
        subst (λ ns. ValidLayers leaf (record { moves = ns; weights = weights k } ∷ [])) listed (sorted_layers-valid leaf (λ t. 0) (weights k ∷ []) are_kinds)

    pub layers-tame : TameLayers leaf (counting_layers (length leaf.moves) k)
    layers-tame = one_layer-tame leaf (counting_layers (length leaf.moves) k) refl

-- ---- steps

more-steps : (count k : ℕ) → 1 ≤ k → layers_bound (counting_layers count k) ≡ 2
more-steps count k some =
    let spread : weights_spread (for_states k (flock_weight k)) ≡ 2 = spread_of (flock_weight k) (flock_state_count k) (pos 0) (pos 2) (k + 1) 1 (omega arith) (omega (arith, some)) (weight-full k) (weight-power k 0 (omega (arith, some))) (λ q l. weight_within k q) in
    let sum : layers_bound (counting_layers count k) ≡ weights_spread (for_states k (flock_weight k)) + 0 = sum_by-cons (λ (layer : Layer). weights_spread layer.weights) (record { moves = range_with_len 0 count; weights = for_states k (flock_weight k) }) [] in
    omega (arith, spread, sum)

one-step : (count : ℕ) → layers_bound (counting_layers count 0) ≡ 1
one-step count =
    let spread : weights_spread (for_states 0 (flock_weight 0)) ≡ 1 = spread_of (flock_weight 0) 2 (pos 0) (pos 1) 1 0 (omega arith) (omega arith) refl refl none-within in
    let sum : layers_bound (counting_layers count 0) ≡ weights_spread (for_states 0 (flock_weight 0)) + 0 = sum_by-cons (λ (layer : Layer). weights_spread layer.weights) (record { moves = range_with_len 0 count; weights = for_states 0 (flock_weight 0) }) [] in
    omega (arith, spread, sum)

pub steps-are : (count k : ℕ) → layers_bound (counting_layers count k) ≡ offset_steps k
steps-are count k = elim (cases_eq k 0) [
  | inl e ↦ (let zero : (k == 0) ≡ true = eq-eqb k 0 e in rw zero (ap (λ j. layers_bound (counting_layers count j)) e ∙ one-step count))
  | inr ne ↦ (let some : (k == 0) ≡ false = ne_eqb k 0 ne in rw some (more-steps count k (omega (arith, ne))))
]
