-- The trees of a built leaf of `Rest` close.
use Rattle.std.proofs.Common.{◌≡◌, ◌≢◌, ℕ, zero, suc, ◌+◌, ◌%◌, ◌<◌, ◌≤◌, Bool, true, false, List, [], length, get_or, refl, ap, sym, ◌∙◌, zero-add, arith}
use Rattle.std.specs.Prelude.{ℤ, pos, negsuc, replicate, neg_ℤ, ◌+ℤ◌, ◌-ℤ◌, if◌then◌else◌, not, ◌==◌, All, slice_index_or}
use Rattle.std.proofs.lemmas.Int.{ints}
use Rattle.std.proofs.Math.Nat.{mod-lt}
use Rattle.std.proofs.lemmas.Bool.{lt-ltb, le-ltb, eq-eqb, eqb-true, eqb-false, ne_eqb}
use Rattle.std.proofs.lemmas.List.{length-map, get_or-map}
use Rattle.std.proofs.lemmas.List.Elements.{All-map, All-replicate, All-from_get_or}
use Rattle.std.proofs.lemmas.List.FromFn.{length-map-range_with_len, get_or-map-range_with_len}
use Rattle.pop_leaf.specs.declared.leaf.Move.{Move}
use Rattle.pop_leaf.specs.LeafModel.{LeafModel, IsLeaf}
use Rattle.pres_ast.specs.PredTree.{Congruent}
use Rattle.pres_ast.specs.PredModel.{PredModel}
use Rattle.pres_ast.specs.PredicateValue.{is_multiple}
use Rattle.cert_base.specs.declared.fact.Fact.{Fact}
use Rattle.cert_base.specs.declared.fact.Fact.TheVariants.{Cong, NotCong}
use Rattle.cert_base.specs.Rows.{input_row, terms_from}
use Rattle.cert_base.specs.ClosingTests.{closes_by_sum, closes_by_residue}
use Rattle.cert_base.specs.Closes.{refutes, Closes}
use Rattle.cert_base.specs.FactsAndCases.{base_list, differs, can_meet_in}
use Rattle.cert_base.specs.WeightedSums.{total}
use Rattle.comp_trees.specs.LeaderTree.{IsLed, facts_of_trap, facts_of_leader, company_of, mix_of_leader, value_mix, wrong_mix}
use Rattle.comp_trees.proofs.LeaderEnds.{wrong_closes, IsOpened, wrong_ruled_out}
use Rattle.comp_trees.proofs.ValueNodes.{AreEven, residue_closes-true, residue_closes-false}
use Rattle.comp_trees.proofs.LeaderClosing.{leader_tree-closes}
use Rattle.comp_remainder.specs.RemainderLeaf.{residue_of, remainder_follower, leader_meeting, follower_turn, remainder_state_name, remainder_output, remainder_leaf_of}
use Rattle.comp_remainder.specs.RemainderProof.{remainder_value, remainder_leader_node, remainder_tree}
use Rattle.comp_remainder.proofs.MoveLists.{all_moves, follower-above}
use Rattle.comp_remainder.proofs.Formed.{moves-few}
use Rattle.comp_remainder.proofs.StateKinds.{Kind, a_leader, a_follower, kind_of}
use Rattle.comp_remainder.proofs.Remainders.{residue-below}
use Rattle.comp_remainder.proofs.Meetings.{leaders-meet, turned-meet}
use Rattle.comp_remainder.proofs.Multiples.{residue-even, sum-even, differ-odd}
use Rattle.cert_base.proofs.Integers.{divides-zero}

value-leader : (m q : ℕ) → q < m → remainder_value m q ≡ pos q
value-leader m q l = rw (lt-ltb q m l) refl

-- values that are all 0
total-zeros : (w : ℕ → ℤ) (q n : ℕ) → w q ≡ pos 0 → total w (replicate n q) ≡ pos 0
total-zeros w q zero e = refl
total-zeros w q (suc n) e = let rest = total-zeros w q n e in omega (arith, ints, e, rest)

value-follower : (m : ℕ) (bit : Bool) → remainder_value m (remainder_follower m bit) ≡ pos 0
value-follower m bit = let a = follower-above m bit in ap (λ (b : Bool). if b then pos (remainder_follower m bit) else pos 0) (le-ltb (remainder_follower m bit) m a)

output-leader : (m rest p : ℕ) → p < m → remainder_output m rest p ≡ (p == rest)
output-leader m rest p l = rw (lt-ltb p m l) refl

output-follower : (m rest : ℕ) (bit : Bool) → remainder_output m rest (remainder_follower m bit) ≡ bit
output-follower m rest true = rw (le-ltb (m + 1) m (omega arith), eq-eqb (m + 1) (m + 1) refl) refl
output-follower m rest false = rw (le-ltb m m (omega arith), ne_eqb m (m + 1) (λ e. omega arith)) refl

module _ (coefs : List ℤ) (m rest spare : ℕ) (two : 2 ≤ m) (high : m ≤ 200) (rest_below : rest < m) (formed : IsLeaf (remainder_leaf_of coefs m rest spare)) where
  abbrev leaf : LeafModel
  leaf = remainder_leaf_of coefs m rest spare

  abbrev pred : PredModel
  pred = record { variables = length coefs; tree = Congruent coefs m rest }

  states_long : length leaf.states ≡ m + 2
  states_long = length-map-range_with_len (remainder_state_name m) 0 (m + 2)

  inputs_long : length leaf.inputs ≡ length coefs
  inputs_long = length-map coefs (residue_of m)

  pub is_led : IsLed leaf m
  is_led = record {
    helpers = All-replicate (λ q. q < m) spare 0 (omega arith);
    leaders = omega (arith, states_long);
    inputs = All-map (λ q. q < m) (residue_of m) coefs (All-from_get_or (λ a. residue_of m a < m) coefs (pos 0) (λ i l. residue-below m (get_or coefs i (pos 0)) (omega arith)));
    moves = all_moves m rest (λ t. t.r < m) (λ p q l k. mod-lt (p + q) (omega arith)) (λ p l. l);
    twins = λ p l. leaders-meet coefs m rest spare p p l l;
    few = (let moves = moves-few m rest high in let inputs = formed.input_count in omega (arith, states_long, moves, inputs));
  }

  -- a spare helper is a leader of the value 0
  worthless : total (remainder_value m) leaf.helpers ≡ pos 0
  worthless = total-zeros (remainder_value m) 0 spare (value-leader m 0 (omega arith))

  output-at : (z : ℕ) → z < length leaf.states → slice_index_or leaf.outputs z false ≡ remainder_output m rest z
  output-at z l = get_or-map-range_with_len (remainder_output m rest) 0 (m + 2) z z false (omega (arith, states_long)) (zero-add z)

  -- the follower that a leader leaves has the leader's output
  left_follower : (p : ℕ) (bit : Bool) → p < m → can_meet_in leaf p (remainder_follower m bit) ≡ false → bit ≡ (p == rest)
  left_follower p bit l e = go bit (p == rest) (λ h. let f : true ≡ false = sym (turned-meet coefs m rest spare p l) ∙ ap (λ (b : Bool). can_meet_in leaf p (remainder_follower m b)) (sym h) ∙ e in cc)
    where
      go : (a b : Bool) → (a ≡ not b → ⊥) → a ≡ b
      go true true h = refl
      go true false h = absurd (h refl)
      go false true h = absurd (h refl)
      go false false h = refl

  wrong-node : (b : Bool) (opened : Fact) (p : ℕ) → p < m → differs b (remainder_output m rest p) ≡ false → closes_by_sum (facts_of_leader leaf (facts_of_trap leaf (base_list leaf pred b) opened m) p) (terms_from 0 (mix_of_leader leaf (company_of leaf p) (wrong_mix leaf b) p)) ≡ true
  wrong-node b opened p l right = wrong_closes leaf pred b opened m p (leaders-meet coefs m rest spare p p l l)
      (wrong_ruled_out leaf b p (remainder_output m rest) output-at right (λ z k. out z (kind_of m z (omega (arith, states_long)))))
    where
      out : (z : ℕ) → Kind m z → differs b (remainder_output m rest z) ≡ true → can_meet_in leaf p z ≡ true
      out _ (a_leader q k) wrong = leaders-meet coefs m rest spare p q l k
      out _ (a_follower bit) wrong = go (can_meet_in leaf p (remainder_follower m bit)) refl
        where
          go : (c : Bool) → can_meet_in leaf p (remainder_follower m bit) ≡ c → c ≡ true
          go true e = refl
          go false e =
              let same : remainder_output m rest p ≡ remainder_output m rest (remainder_follower m bit) = output-leader m rest p l ∙ sym (left_follower p bit l e) ∙ sym (output-follower m rest bit) in
              absurd (let g : true ≡ false = sym wrong ∙ ap (differs b) (sym same) ∙ right in cc)

  -- ---- the nodes by values

  input-even : (i : ℕ) → i < length leaf.inputs → is_multiple m (remainder_value m (get_or leaf.inputs i 0) -ℤ get_or coefs i (pos 0)) ≡ true
  input-even i l =
      let k : i < length coefs = omega (arith, inputs_long) in
      let a = get_or coefs i (pos 0) in
      ap (λ z. is_multiple m (z -ℤ a)) (ap (remainder_value m) (get_or-map (residue_of m) coefs i (pos 0) 0 k) ∙ value-leader m (residue_of m a) (residue-below m a (omega arith)))
      ∙ residue-even m a (omega arith)

  abbrev change : Move → ℤ
  change t = (remainder_value m t.r +ℤ remainder_value m t.s) -ℤ (remainder_value m t.p +ℤ remainder_value m t.q)

  moves-even : All (λ t. is_multiple m (change t) ≡ true) leaf.moves
  moves-even = all_moves m rest (λ t. is_multiple m (change t) ≡ true)
      (λ p q l k. (
      let r_is = value-leader m ((p + q) % m) (mod-lt (p + q) (omega arith)) in
      let s_is = value-follower m (((p + q) % m) == rest) in
      let p_is = value-leader m p l in
      let q_is = value-leader m q k in
      let whole : change (leader_meeting m rest p q) ≡ ((pos ((p + q) % m) +ℤ pos 0) -ℤ (pos p +ℤ pos q)) = omega (arith, ints, r_is, s_is, p_is, q_is) in
      ap (is_multiple m) whole ∙ sum-even m p q))
      (λ p l. (
      let s_is = value-follower m (p == rest) in
      let q_is = value-follower m (not (p == rest)) in
      let whole : change (follower_turn m rest p) ≡ pos 0 = omega (arith, ints, s_is, q_is) in
      ap (is_multiple m) whole ∙ divides-zero m))

  states-even : (p z : ℕ) → p < m → z < length leaf.states → can_meet_in leaf p z ≡ false → is_multiple m (neg_ℤ (remainder_value m z)) ≡ true
  states-even p z l k e = go z (kind_of m z (omega (arith, states_long))) e
    where
      go : (z : ℕ) → Kind m z → can_meet_in leaf p z ≡ false → is_multiple m (neg_ℤ (remainder_value m z)) ≡ true
      go _ (a_leader q k) e = absurd (let h : true ≡ false = sym (leaders-meet coefs m rest spare p q l k) ∙ e in cc)
      go _ (a_follower bit) e = ap (λ v. is_multiple m (neg_ℤ v)) (value-follower m bit) ∙ divides-zero m

  abbrev opened_fact : Bool → Fact
  opened_fact b = if b then Cong (input_row coefs (neg_ℤ (pos rest))) m else NotCong (input_row coefs (neg_ℤ (pos rest))) m

  is_opened : (b : Bool) (p : ℕ) (l : p < m) → IsOpened leaf pred b (opened_fact b) m p (leaders-meet coefs m rest spare p p l l) coefs (neg_ℤ (pos rest))
  is_opened true p l = record { long = sym inputs_long; row = refl }
  is_opened false p l = record { long = sym inputs_long; row = refl }

  even : (b : Bool) (p : ℕ) (l : p < m) → AreEven leaf pred b (opened_fact b) m p (leaders-meet coefs m rest spare p p l l) (omega (arith, states_long)) formed.inputs formed.moves formed.helpers coefs (neg_ℤ (pos rest)) (is_opened b p l) m (remainder_value m)
  even b p l = record {
    of_inputs = input-even;
    of_moves = moves-even;
    of_states = λ z k ne e. states-even p z l k e;
  }

  value-true : (p : ℕ) → p < m → (p == rest) ≡ false → closes_by_residue (facts_of_leader leaf (facts_of_trap leaf (base_list leaf pred true) (Cong (input_row coefs (neg_ℤ (pos rest))) m) m) p) m (terms_from 0 (mix_of_leader leaf (company_of leaf p) (value_mix (remainder_value m) (negsuc 0) p) p)) ≡ true
  value-true p l other =
      let ne : rest ≢ p = λ e. eqb-false p rest other (sym e) in
      let v = value-leader m p l in
      let same : (neg_ℤ (neg_ℤ (pos rest)) -ℤ remainder_value m p) ≡ (pos rest -ℤ pos p) = omega (arith, ints, v) in
      residue_closes-true leaf pred true (Cong (input_row coefs (neg_ℤ (pos rest))) m) m p (leaders-meet coefs m rest spare p p l l) (omega (arith, states_long)) formed.inputs formed.moves formed.helpers coefs (neg_ℤ (pos rest)) (is_opened true p l) m (remainder_value m) worthless
      (divides-zero m) (eq-eqb m m refl) (even true p l) (ap (is_multiple m) same ∙ differ-odd m rest p rest_below l ne)

  value-false : (p : ℕ) → p < m → (p == rest) ≡ true → closes_by_residue (facts_of_leader leaf (facts_of_trap leaf (base_list leaf pred false) (NotCong (input_row coefs (neg_ℤ (pos rest))) m) m) p) m (terms_from 0 (mix_of_leader leaf (company_of leaf p) (value_mix (remainder_value m) (pos 0) p) p)) ≡ true
  value-false p l same =
      let e = eqb-true p rest same in
      let v = value-leader m p l in
      let none : (neg_ℤ (remainder_value m p) -ℤ neg_ℤ (pos rest)) ≡ pos 0 = omega (arith, ints, v, ap pos e) in
      residue_closes-false leaf pred false (NotCong (input_row coefs (neg_ℤ (pos rest))) m) m p (leaders-meet coefs m rest spare p p l l) (omega (arith, states_long)) formed.inputs formed.moves formed.helpers coefs (neg_ℤ (pos rest)) (is_opened false p l) m (remainder_value m) worthless
      (divides-zero m) refl (even false p l) (ap (is_multiple m) none ∙ divides-zero m)

  on_true : (p : ℕ) → p < m → refutes (facts_of_leader leaf (facts_of_trap leaf (base_list leaf pred true) (Cong (input_row coefs (neg_ℤ (pos rest))) m) m) p) (remainder_leader_node leaf m rest true p) ≡ true
  on_true p l = go (remainder_output m rest p) refl
    where
      go : (c : Bool) → remainder_output m rest p ≡ c → refutes (facts_of_leader leaf (facts_of_trap leaf (base_list leaf pred true) (Cong (input_row coefs (neg_ℤ (pos rest))) m) m) p) (remainder_leader_node leaf m rest true p) ≡ true
      go true e = rw e (wrong-node true (Cong (input_row coefs (neg_ℤ (pos rest))) m) p l (ap (differs true) e))
      go false e = rw e (value-true p l (sym (output-leader m rest p l) ∙ e))

  on_false : (p : ℕ) → p < m → refutes (facts_of_leader leaf (facts_of_trap leaf (base_list leaf pred false) (NotCong (input_row coefs (neg_ℤ (pos rest))) m) m) p) (remainder_leader_node leaf m rest false p) ≡ true
  on_false p l = go (remainder_output m rest p) refl
    where
      go : (c : Bool) → remainder_output m rest p ≡ c → refutes (facts_of_leader leaf (facts_of_trap leaf (base_list leaf pred false) (NotCong (input_row coefs (neg_ℤ (pos rest))) m) m) p) (remainder_leader_node leaf m rest false p) ≡ true
      go true e = rw e (value-false p l (sym (output-leader m rest p l) ∙ e))
      go false e = rw e (wrong-node false (NotCong (input_row coefs (neg_ℤ (pos rest))) m) p l (ap (differs false) e))

  pub tree-true : Closes leaf (base_list leaf pred true) (remainder_tree leaf m rest true) []
  tree-true = leader_tree-closes leaf pred true (Cong (input_row coefs (neg_ℤ (pos rest))) m) m is_led formed refl (remainder_leader_node leaf m rest true) on_true

  pub tree-false : Closes leaf (base_list leaf pred false) (remainder_tree leaf m rest false) []
  tree-false = leader_tree-closes leaf pred false (NotCong (input_row coefs (neg_ℤ (pos rest))) m) m is_led formed refl (remainder_leader_node leaf m rest false) on_false
