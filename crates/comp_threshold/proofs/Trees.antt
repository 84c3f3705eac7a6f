-- The trees of a built leaf of `Less` close.
use Rattle.std.proofs.Common.{◌≡◌, ◌⊎◌, inl, inr, subst, ℕ, ◌+◌, ◌<◌, ◌≤◌, Bool, true, false, List, [], length, map, get_or, refl, ap, sym, ◌∙◌, zero-add, arith}
use Rattle.std.specs.Prelude.{ℤ, pos, negsuc, neg_ℤ, ◌+ℤ◌, ◌-ℤ◌, ◌≤ℤ◌, nat_lt, nat_abs, All, slice_index_or}
use Rattle.std.proofs.lemmas.Int.{ints}
use Rattle.std.proofs.lemmas.Bool.{ltb-true, ltb-false, eqb-true, not-false, and_parts}
use Rattle.std.proofs.lemmas.List.{length-map, get_or-map}
use Rattle.std.proofs.lemmas.List.Elements.{All-nil, All-map, All-from_get_or}
use Rattle.std.proofs.lemmas.List.FromFn.{length-map-range_with_len, get_or-map-range_with_len}
use Rattle.pop_leaf.specs.LeafModel.{LeafModel, IsLeaf}
use Rattle.pres_ast.specs.PredTree.{LessThan}
use Rattle.pres_ast.specs.PredModel.{PredModel}
use Rattle.cert_base.specs.declared.limits.TheConstants.{FACT_LIMIT}
use Rattle.cert_base.specs.declared.fact.Fact.{Fact}
use Rattle.cert_base.specs.declared.fact.Fact.TheVariants.{Ge}
use Rattle.cert_base.specs.Rows.{input_row, terms_from}
use Rattle.cert_base.specs.ClosingTests.{closes_by_sum}
use Rattle.cert_base.specs.Closes.{refutes, Closes}
use Rattle.cert_base.specs.FactsAndCases.{base_list, differs, can_meet_in}
use Rattle.comp_trees.specs.LeaderTree.{IsLed, facts_of_trap, facts_of_leader, company_of, mix_of_leader, value_mix, wrong_mix}
use Rattle.comp_trees.proofs.LeaderEnds.{wrong_closes, wrong_ruled_out}
use Rattle.comp_trees.proofs.ValueNodes.{value_closes}
use Rattle.comp_trees.proofs.LeaderClosing.{leader_tree-closes}
use Rattle.comp_threshold.specs.ThresholdLeaf.{threshold_width, span_of, place_of_value, threshold_place, threshold_follower, joined_value, leftover, threshold_output, threshold_leader_move, alters_states, threshold_state_count, threshold_state_name, threshold_leaf_of, threshold_value}
use Rattle.comp_threshold.specs.ThresholdProof.{signed_value, threshold_leader_node, threshold_tree}
use Rattle.comp_threshold.proofs.Places.{cut, Kind, a_leader, a_follower, kind_of, place-leader, place-follower, follower-above, output-leader, output-follower, place-within, place-most, value-place, width-bound, width-coef}
use Rattle.comp_threshold.proofs.MoveLists.{all_moves, leader_move-cut, leaders-meet, turned-meet}

-- ---- the values of a move

value-leader : (s p : ℕ) → p < span_of s → threshold_value s p ≡ (pos p -ℤ pos s)
value-leader s p l = let e = ap pos (place-leader s p l) in rw e refl

value-follower : (s v : ℕ) (bit : Bool) → v < span_of s → threshold_value s (threshold_follower s bit v) ≡ (pos v -ℤ pos s)
value-follower s v bit l = let e = ap pos (place-follower s v bit l) in rw e refl

-- no move changes the sum of values
leader_move-value : (s t p q : ℕ) → p < span_of s → q < threshold_state_count s → (threshold_value s (threshold_leader_move s t p q).r +ℤ threshold_value s (threshold_leader_move s t p q).s) ≡ (threshold_value s p +ℤ threshold_value s q)
leader_move-value s t p q l m =
    let is = leader_move-cut s t p q l (kind_of s q m) in
    let j = is.joined in
    let k = is.leftover in
    let whole = is.whole in
    let first = value-leader s (joined_value s p (threshold_place s q)) (omega arith) in
    let second = value-follower s (leftover s p (threshold_place s q)) (nat_lt (joined_value s p (threshold_place s q)) t) (omega arith) in
    let third = value-leader s p l in
    omega (arith, ints, first, second, third)

-- a follower that a leader leaves as it is
pub record IsKept (s t p v : ℕ) (bit : Bool) : Type 0 where
  pub same : joined_value s p v ≡ p
  pub turned : nat_lt p t ≡ bit

pub kept : (s t p v : ℕ) (bit : Bool) → p < span_of s → v < span_of s → alters_states (threshold_leader_move s t p (threshold_follower s bit v)) ≡ false → IsKept s t p v bit
kept s t p v bit l m e =
    let same_place = place-follower s v bit m in
    let both = and_parts _ _ (not-false _ e) in
    let r_is : joined_value s p (threshold_place s (threshold_follower s bit v)) ≡ p = eqb-true _ _ both.0 in
    let s_is : (threshold_leader_move s t p (threshold_follower s bit v)).s ≡ threshold_follower s bit v = eqb-true _ _ both.1 in
    let same : joined_value s p v ≡ p = ap (joined_value s p) (sym same_place) ∙ r_is in
    let is = cut s p v (omega arith) (omega arith) in
    let few = is.leftover in
    let first : threshold_output s t (threshold_leader_move s t p (threshold_follower s bit v)).s ≡ nat_lt (joined_value s p (threshold_place s (threshold_follower s bit v))) t = output-follower s t (leftover s p (threshold_place s (threshold_follower s bit v))) (nat_lt (joined_value s p (threshold_place s (threshold_follower s bit v))) t) (let n : leftover s p v < span_of s = omega arith in subst (λ k. leftover s p k < span_of s) (sym same_place) n) in
    record {
      same = same;
      turned = ap (λ k. nat_lt k t) (sym r_is) ∙ sym first ∙ ap (threshold_output s t) s_is ∙ output-follower s t v bit m;
    }

-- the value of such a follower
kept-value : (s p v : ℕ) → p < span_of s → v < span_of s → joined_value s p v ≡ p → ((p ≡ 0) × (v ≤ s)) ⊎ ((p ≡ s + s) × (s ≤ v)) ⊎ (v ≡ s)
kept-value s p v l m e =
    elim (cut s p v (omega arith) (omega arith)).low [
      | inl h ↦ inl (omega (arith, h.0), omega (arith, h.1))
      | inr k ↦ elim k [
        | inl h ↦ inr (inl (omega (arith, h.0), omega (arith, h.0, h.1)))
        | inr h ↦ inr (inr (omega arith))
      ]
    ]

module _ (coefs : List ℤ) (bound : ℤ) (formed : IsLeaf (threshold_leaf_of coefs bound)) (few : length (threshold_leaf_of coefs bound).states + length (threshold_leaf_of coefs bound).moves + length (threshold_leaf_of coefs bound).inputs + 6 ≤ FACT_LIMIT) where
  abbrev s : ℕ
  s = threshold_width coefs bound

  abbrev t : ℕ
  t = place_of_value s bound

  abbrev leaf : LeafModel
  leaf = threshold_leaf_of coefs bound

  abbrev pred : PredModel
  pred = record { variables = length coefs; tree = LessThan coefs bound }

  bound_is : pos t ≡ (bound +ℤ pos s)
  bound_is = place-within s bound (let w = width-bound coefs bound in omega arith)

  bound_low : 1 ≤ t
  bound_low = low bound (width-bound coefs bound) bound_is
    where
      low : (z : ℤ) → nat_abs z + 1 ≤ s → pos t ≡ (z +ℤ pos s) → 1 ≤ t
      low (pos k) w e = omega (arith, ints, e)
      low (negsuc k) w e = omega (arith, ints, e)

  bound_high : t < s + s
  bound_high = high bound (width-bound coefs bound) bound_is
    where
      high : (z : ℤ) → nat_abs z + 1 ≤ s → pos t ≡ (z +ℤ pos s) → t < s + s
      high (pos k) w e = omega (arith, ints, e)
      high (negsuc k) w e = omega (arith, ints, e)

  states_long : length leaf.states ≡ threshold_state_count s
  states_long = length-map-range_with_len (threshold_state_name s) 0 (threshold_state_count s)

  inputs_long : length leaf.inputs ≡ length coefs
  inputs_long = length-map coefs (place_of_value s)

  pub is_led : IsLed leaf (span_of s)
  is_led = record {
    helpers = All-nil (λ q. q < span_of s);
    few = few;
    leaders = omega (arith, states_long);
    inputs = All-map (λ q. q < span_of s) (place_of_value s) coefs (All-from_get_or (λ a. place_of_value s a < span_of s) coefs (pos 0) (λ i l. place-most s (get_or coefs i (pos 0)) (width-coef coefs bound i (pos 0) l)));
    moves = all_moves s t (λ m. m.r < span_of s) (λ p q l m. let is = leader_move-cut s t p q l (kind_of s q m) in let j = is.joined in omega arith);
    twins = λ p l. leaders-meet s t p p leaf.inputs l l;
  }

  input-value : (i : ℕ) → i < length leaf.inputs → threshold_value s (get_or leaf.inputs i 0) ≡ get_or coefs i (pos 0)
  input-value i l =
      let m : i < length coefs = omega (arith, inputs_long) in
      ap (threshold_value s) (get_or-map (place_of_value s) coefs i (pos 0) 0 m) ∙ value-place s (get_or coefs i (pos 0)) (width-coef coefs bound i (pos 0) m)

  output-at : (z : ℕ) → z < length leaf.states → slice_index_or leaf.outputs z false ≡ threshold_output s t z
  output-at z l = get_or-map-range_with_len (threshold_output s t) 0 (threshold_state_count s) z z false (omega (arith, states_long)) (zero-add z)

  -- ---- what a leader leaves

  left_over : (P : ℤ → Type 0) (p z : ℕ) → p < span_of s → z < length leaf.states → can_meet_in leaf p z ≡ false → ((v : ℕ) → ((p ≡ 0) × (v ≤ s)) ⊎ ((p ≡ s + s) × (s ≤ v)) ⊎ (v ≡ s) → P (pos v -ℤ pos s)) → P (threshold_value s z)
  left_over P p z l m e f = go z (kind_of s z (omega (arith, states_long))) m e
    where
      go : (z : ℕ) → Kind s z → z < length leaf.states → can_meet_in leaf p z ≡ false → P (threshold_value s z)
      go _ (a_leader q k) m e = absurd (let h : true ≡ false = sym (leaders-meet s t p q leaf.inputs l k) ∙ e in cc)
      go _ (a_follower bit v k) m e =
          let unchanged : alters_states (threshold_leader_move s t p (threshold_follower s bit v)) ≡ false = no_change (alters_states (threshold_leader_move s t p (threshold_follower s bit v))) refl in
          let is = kept s t p v bit l k unchanged in
          subst P (sym (value-follower s v bit k)) (f v (kept-value s p v l k is.same))
        where
          no_change : (b : Bool) → alters_states (threshold_leader_move s t p (threshold_follower s bit v)) ≡ b → b ≡ false
          no_change false h = refl
          no_change true h = absurd (let g : true ≡ false = sym (turned-meet s t p (threshold_follower s bit v) leaf.inputs l (follower-above s v bit) (omega (arith, states_long)) h) ∙ e in cc)

  -- ---- the nodes by a wrong output

  wrong-node : (b : Bool) (opened : Fact) (p : ℕ) → p < span_of s → differs b (threshold_output s t p) ≡ false → closes_by_sum (facts_of_leader leaf (facts_of_trap leaf (base_list leaf pred b) opened (span_of s)) p) (terms_from 0 (mix_of_leader leaf (company_of leaf p) (wrong_mix leaf b) p)) ≡ true
  wrong-node b opened p l right = wrong_closes leaf pred b opened (span_of s) p (leaders-meet s t p p leaf.inputs l l)
      (wrong_ruled_out leaf b p (threshold_output s t) output-at right (λ z m. out z (kind_of s z (omega (arith, states_long))) m))
    where
      out : (z : ℕ) → Kind s z → z < length leaf.states → differs b (threshold_output s t z) ≡ true → can_meet_in leaf p z ≡ true
      out _ (a_leader q k) m wrong = leaders-meet s t p q leaf.inputs l k
      out _ (a_follower bit v k) m wrong = change (alters_states (threshold_leader_move s t p (threshold_follower s bit v))) refl
        where
          change : (c : Bool) → alters_states (threshold_leader_move s t p (threshold_follower s bit v)) ≡ c → can_meet_in leaf p (threshold_follower s bit v) ≡ true
          change true h = turned-meet s t p (threshold_follower s bit v) leaf.inputs l (follower-above s v bit) (omega (arith, states_long)) h
          change false h =
              let is = kept s t p v bit l k h in
              let same : threshold_output s t p ≡ threshold_output s t (threshold_follower s bit v) = output-leader s t p l ∙ is.turned ∙ sym (output-follower s t v bit k) in
              absurd (let g : true ≡ false = sym wrong ∙ ap (differs b) (sym same) ∙ right in cc)

  -- ---- the nodes by values

  all_values : All (λ m. (threshold_value s m.r +ℤ threshold_value s m.s) ≡ (threshold_value s m.p +ℤ threshold_value s m.q)) leaf.moves
  all_values = all_moves s t (λ m. (threshold_value s m.r +ℤ threshold_value s m.s) ≡ (threshold_value s m.p +ℤ threshold_value s m.q)) (λ p q l m. leader_move-value s t p q l m)

  abbrev value_terms : Bool → ℕ → List ℤ
  value_terms b p = mix_of_leader leaf (company_of leaf p) (value_mix (signed_value b s) (pos 1) p) p

  value-true : (p : ℕ) → p < span_of s → nat_lt p t ≡ false → closes_by_sum (facts_of_leader leaf (facts_of_trap leaf (base_list leaf pred true) (Ge (input_row (map neg_ℤ coefs) (bound -ℤ pos 1))) (span_of s)) p) (terms_from 0 (value_terms true p)) ≡ true
  value-true p l above =
      let twin = leaders-meet s t p p leaf.inputs l l in
      let at_least = ltb-false p t above in
      let low = bound_low in
      value_closes leaf pred true (Ge (input_row (map neg_ℤ coefs) (bound -ℤ pos 1))) (span_of s) p twin (omega (arith, states_long)) formed.inputs formed.moves formed.helpers (map neg_ℤ coefs) (bound -ℤ pos 1)
      (record { long = length-map coefs neg_ℤ ∙ sym inputs_long; row = refl })
      (threshold_value s) refl refl
      (λ i k. let e = input-value i k in let f = get_or-map neg_ℤ coefs i (pos 0) (pos 0) (omega (arith, inputs_long)) in omega (arith, ints, e, f))
      (λ i d k. let e = all_values i d k in omega (arith, ints, e))
      (λ z k ne e. left_over (λ c. pos 0 ≤ℤ c) p z l k e (λ v h. elim h [ inl a ↦ absurd (omega (arith, a.0)) | inr a ↦ elim a [ inl c ↦ omega (arith, ints, c.1) | inr c ↦ omega (arith, ints) ] ]))
      (let e = value-leader s p l in let f = bound_is in omega (arith, ints, e, f))

  value-false : (p : ℕ) → p < span_of s → nat_lt p t ≡ true → closes_by_sum (facts_of_leader leaf (facts_of_trap leaf (base_list leaf pred false) (Ge (input_row coefs (neg_ℤ bound))) (span_of s)) p) (terms_from 0 (value_terms false p)) ≡ true
  value-false p l below =
      let twin = leaders-meet s t p p leaf.inputs l l in
      let less = ltb-true p t below in
      let high = bound_high in
      value_closes leaf pred false (Ge (input_row coefs (neg_ℤ bound))) (span_of s) p twin (omega (arith, states_long)) formed.inputs formed.moves formed.helpers coefs (neg_ℤ bound)
      (record { long = sym inputs_long; row = refl })
      (λ q. neg_ℤ (threshold_value s q)) refl refl
      (λ i k. let e = input-value i k in omega (arith, ints, e))
      (λ i d k. let e = all_values i d k in omega (arith, ints, e))
      (λ z k ne e. left_over (λ c. pos 0 ≤ℤ neg_ℤ c) p z l k e (λ v h. elim h [ inl a ↦ omega (arith, ints, a.1) | inr a ↦ elim a [ inl c ↦ absurd (omega (arith, c.0)) | inr c ↦ omega (arith, ints) ] ]))
      (let e = value-leader s p l in let f = bound_is in omega (arith, ints, e, f))

  -- ---- both trees

  on_true : (p : ℕ) → p < span_of s → refutes (facts_of_leader leaf (facts_of_trap leaf (base_list leaf pred true) (Ge (input_row (map neg_ℤ coefs) (bound -ℤ pos 1))) (span_of s)) p) (threshold_leader_node leaf s t true p) ≡ true
  on_true p l = go (threshold_output s t p) refl
    where
      go : (c : Bool) → threshold_output s t p ≡ c → refutes (facts_of_leader leaf (facts_of_trap leaf (base_list leaf pred true) (Ge (input_row (map neg_ℤ coefs) (bound -ℤ pos 1))) (span_of s)) p) (threshold_leader_node leaf s t true p) ≡ true
      go true e = rw e (wrong-node true (Ge (input_row (map neg_ℤ coefs) (bound -ℤ pos 1))) p l (ap (differs true) e))
      go false e = rw e (value-true p l (sym (output-leader s t p l) ∙ e))

  on_false : (p : ℕ) → p < span_of s → refutes (facts_of_leader leaf (facts_of_trap leaf (base_list leaf pred false) (Ge (input_row coefs (neg_ℤ bound))) (span_of s)) p) (threshold_leader_node leaf s t false p) ≡ true
  on_false p l = go (threshold_output s t p) refl
    where
      go : (c : Bool) → threshold_output s t p ≡ c → refutes (facts_of_leader leaf (facts_of_trap leaf (base_list leaf pred false) (Ge (input_row coefs (neg_ℤ bound))) (span_of s)) p) (threshold_leader_node leaf s t false p) ≡ true
      go true e = rw e (value-false p l (sym (output-leader s t p l) ∙ e))
      go false e = rw e (wrong-node false (Ge (input_row coefs (neg_ℤ bound))) p l (ap (differs false) e))

  pub tree-true : Closes leaf (base_list leaf pred true) (threshold_tree leaf s t true) []
  tree-true = leader_tree-closes leaf pred true (Ge (input_row (map neg_ℤ coefs) (bound -ℤ pos 1))) (span_of s) is_led formed refl (threshold_leader_node leaf s t true) on_true

  pub tree-false : Closes leaf (base_list leaf pred false) (threshold_tree leaf s t false) []
  tree-false = leader_tree-closes leaf pred false (Ge (input_row coefs (neg_ℤ bound))) (span_of s) is_led formed refl (threshold_leader_node leaf s t false) on_false
