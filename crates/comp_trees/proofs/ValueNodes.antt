-- When the node by values closes: over whole numbers, and modulo m.
use Rattle.std.proofs.Common.{◌≡◌, ◌≢◌, ◌⊎◌, inl, inr, subst, ℕ, ◌+◌, ◌<◌, ◌≤◌, Bool, true, false, List, [], ◌∷◌, ◌++◌, length, get_or, refl, ap, sym, ◌∙◌, arith}
use Rattle.std.specs.Prelude.{ℤ, pos, negsuc, neg_ℤ, ◌+ℤ◌, ◌-ℤ◌, ◌*ℤ◌, ◌≤ℤ◌, if◌then◌else◌, ◌==◌, All, Contains}
use Rattle.std.proofs.lemmas.Int.{ints}
use Rattle.std.proofs.Math.IntN.{*ℤ-zero, zero-*ℤ, *ℤ_comm}
use Rattle.std.proofs.lemmas.Bool.Decides.{eqb_tells}
use Rattle.std.proofs.lemmas.List.{get_or_past}
use Rattle.std.proofs.lemmas.List.Elements.{All-get_or, Contains-append_left, Contains-append_right}
use Rattle.pop_leaf.specs.declared.leaf.Move.{Move}
use Rattle.pop_leaf.specs.LeafModel.{LeafModel, IsMoveBelow}
use Rattle.pres_ast.specs.PredModel.{PredModel}
use Rattle.pres_ast.specs.PredicateValue.{is_multiple}
use Rattle.cert_base.specs.declared.fact.Fact.{Fact}
use Rattle.cert_base.specs.declared.fact.Fact.TheVariants.{NotCong}
use Rattle.cert_base.specs.Rows.{terms_from, input_row}
use Rattle.cert_base.specs.ClosingTests.{closes_by_sum, closes_by_residue, may_add, may_add_modulo, coefficient_in}
use Rattle.cert_base.specs.FactsAndCases.{base_list, can_meet_in}
use Rattle.cert_base.specs.WeightedSums.{sum_of_facts, coefficient, constant_of, total}
use Rattle.comp_trees.specs.LeaderTree.{facts_of_trap, facts_without, value_mix}
use Rattle.cert_base.proofs.WeightedSums.{linear_closes-weighted, residue_closes-constant, residue_closes-denied}
use Rattle.cert_base.proofs.FlowSums.{each_variable, times-one, mul-neg}
use Rattle.comp_trees.proofs.LeaderEnds.{all_facts, value_terms, IsOpened, may_leader, value-input, value-state, value-move, value-past, value-constant, opened-at}

module _ (leaf : LeafModel) (pred : PredModel) (b : Bool) (opened : Fact) (n p : ℕ) (twin : can_meet_in leaf p p ≡ true) (below : p < length leaf.states) (inputs : All (λ q. q < length leaf.states) leaf.inputs) (moves : All (IsMoveBelow (length leaf.states)) leaf.moves) (helpers : All (λ q. q < length leaf.states) leaf.helpers) (coefs : List ℤ) (constant : ℤ) (is : IsOpened leaf pred b opened n p twin coefs constant) where
  abbrev facts : List Fact
  facts = all_facts leaf pred b opened n p twin

  abbrev by_values : (ℕ → ℤ) → ℤ → List ℤ
  by_values w m = value_terms leaf pred b opened n p twin w m

  input_below : (i : ℕ) → i < length leaf.inputs → get_or leaf.inputs i 0 < length leaf.states
  input_below i l = All-get_or (λ q. q < length leaf.states) leaf.inputs i 0 l inputs

  move_below : (t : ℕ) (d : Move) → t < length leaf.moves → IsMoveBelow (length leaf.states) (get_or leaf.moves t d)
  move_below t d l = All-get_or (IsMoveBelow (length leaf.states)) leaf.moves t d l moves

  -- if 0 passes a test, and so do the negated values of the states that the leader leaves, a state's coefficient does
  state_passes : (P : ℤ → Type 0) (w : ℕ → ℤ) (z : ℕ) → P (pos 0) → (z ≢ p → can_meet_in leaf p z ≡ false → P (neg_ℤ (w z))) → P (if z == p then pos 0 else (if can_meet_in leaf p z then pos 0 else neg_ℤ (w z)))
  state_passes P w z none rest = go (eqb_tells z p)
    where
      met : (c : Bool) → can_meet_in leaf p z ≡ c → z ≢ p → P (if c then pos 0 else neg_ℤ (w z))
      met true e ne = none
      met false e ne = rest ne e

      go : ((z == p) ≡ true) × (z ≡ p) ⊎ ((z == p) ≡ false) × (z ≢ p) → P (if z == p then pos 0 else (if can_meet_in leaf p z then pos 0 else neg_ℤ (w z)))
      go (inl h) = rw h.0 none
      go (inr h) = rw h.0 (met (can_meet_in leaf p z) refl h.1)

  -- move number t
  a_move : Move
  a_move = record { p = 0; q = 0; r = 0; s = 0 }

  pub value_closes : (w : ℕ → ℤ) → total w leaf.helpers ≡ pos 0 → may_add (pos 1) opened ≡ true → ((i : ℕ) → i < length leaf.inputs → (w (get_or leaf.inputs i 0) +ℤ get_or coefs i (pos 0)) ≤ℤ pos 0) → All (λ m. (w m.r +ℤ w m.s) ≤ℤ (w m.p +ℤ w m.q)) leaf.moves → ((z : ℕ) → z < length leaf.states → z ≢ p → can_meet_in leaf p z ≡ false → pos 0 ≤ℤ w z) → (constant -ℤ w p) ≤ℤ negsuc 0 → closes_by_sum facts (terms_from 0 (by_values w (pos 1))) ≡ true
  value_closes w worthless may at_inputs at_moves at_states last =
      linear_closes-weighted facts (by_values w (pos 1))
      (may_leader may_add (λ a row. refl) leaf pred b opened n p (value_mix w (pos 1) p) twin refl may)
      (each_variable leaf (λ x. sum_of_facts (coefficient x) facts (by_values w (pos 1)) ≤ℤ pos 0)
      (λ i l. let e = value-input leaf pred b opened n p twin w (pos 1) coefs constant i is l (input_below i l) in let f = at_inputs i l in let g = *ℤ_comm (pos 1) (get_or coefs i (pos 0)) ∙ times-one (get_or coefs i (pos 0)) in omega (arith, ints, e, f, g))
      (λ z l. subst (λ c. c ≤ℤ pos 0) (sym (value-state leaf pred b opened n p twin w (pos 1) coefs constant z is l)) (state_passes (λ c. c ≤ℤ pos 0) w z (omega (arith, ints)) (λ ne e. let f = at_states z l ne e in omega (arith, ints, f))))
      (λ t l. let e = value-move leaf pred b opened n p twin w (pos 1) coefs constant t a_move is below l (move_below t a_move l) in let f = All-get_or (λ m. (w m.r +ℤ w m.s) ≤ℤ (w m.p +ℤ w m.q)) leaf.moves t a_move l at_moves in omega (arith, ints, e, f))
      (λ j. let e = value-past leaf pred b opened n p twin w (pos 1) coefs constant j is below in omega (arith, ints, e)))
      (let e = value-constant leaf pred b opened n p twin w (pos 1) coefs constant helpers worthless is in let g = *ℤ_comm (pos 1) constant ∙ times-one constant in omega (arith, ints, e, last, g))

  -- what holds for the values modulo m
  pub record AreEven (m : ℕ) (w : ℕ → ℤ) : Type 0 where
    pub of_inputs : (i : ℕ) → i < length leaf.inputs → is_multiple m (w (get_or leaf.inputs i 0) -ℤ get_or coefs i (pos 0)) ≡ true
    pub of_moves : All (λ t. is_multiple m ((w t.r +ℤ w t.s) -ℤ (w t.p +ℤ w t.q)) ≡ true) leaf.moves
    pub of_states : (z : ℕ) → z < length leaf.states → z ≢ p → can_meet_in leaf p z ≡ false → is_multiple m (neg_ℤ (w z)) ≡ true

  minus_one : (a : ℤ) → (negsuc 0 *ℤ a) ≡ neg_ℤ a
  minus_one a = *ℤ_comm (negsuc 0) a ∙ mul-neg a (pos 1) ∙ ap neg_ℤ (times-one a)

  -- the opened fact is a congruence
  pub residue_closes-true : (m : ℕ) (w : ℕ → ℤ) → total w leaf.helpers ≡ pos 0 → is_multiple m (pos 0) ≡ true → may_add_modulo m (negsuc 0) opened ≡ true → AreEven m w → is_multiple m (neg_ℤ constant -ℤ w p) ≡ false → closes_by_residue facts m (terms_from 0 (by_values w (negsuc 0))) ≡ true
  residue_closes-true m w worthless none may even odd =
      residue_closes-constant facts m (by_values w (negsuc 0))
      (may_leader (may_add_modulo m) (λ a row. refl) leaf pred b opened n p (value_mix w (negsuc 0) p) twin refl may)
      (each_variable leaf (λ x. is_multiple m (sum_of_facts (coefficient x) facts (by_values w (negsuc 0))) ≡ true)
      (λ i l. ap (is_multiple m) (value-input leaf pred b opened n p twin w (negsuc 0) coefs constant i is l (input_below i l) ∙ ap (λ c. w (get_or leaf.inputs i 0) +ℤ c) (minus_one (get_or coefs i (pos 0)))) ∙ even.of_inputs i l)
      (λ z l. ap (is_multiple m) (value-state leaf pred b opened n p twin w (negsuc 0) coefs constant z is l) ∙ state_passes (λ c. is_multiple m c ≡ true) w z none (even.of_states z l))
      (λ t l. ap (is_multiple m) (value-move leaf pred b opened n p twin w (negsuc 0) coefs constant t a_move is below l (move_below t a_move l)) ∙ All-get_or (λ t. is_multiple m ((w t.r +ℤ w t.s) -ℤ (w t.p +ℤ w t.q)) ≡ true) leaf.moves t a_move l even.of_moves)
      (λ j. ap (is_multiple m) (value-past leaf pred b opened n p twin w (negsuc 0) coefs constant j is below) ∙ none))
      (ap (is_multiple m) (value-constant leaf pred b opened n p twin w (negsuc 0) coefs constant helpers worthless is ∙ ap (λ c. c -ℤ w p) (minus_one constant)) ∙ odd)

  opened_there : Contains facts opened
  opened_there =
      Contains-append_left (facts_without leaf (facts_of_trap leaf (base_list leaf pred b) opened n) p) _ opened
      (Contains-append_left (facts_of_trap leaf (base_list leaf pred b) opened n) _ opened
      (Contains-append_left (base_list leaf pred b ++ opened ∷ []) _ opened
      (Contains-append_right (base_list leaf pred b) (opened ∷ []) opened (0, (let e : 0 < length (opened ∷ []) = omega arith in e), refl))))

  -- the opened fact denies a congruence
  pub residue_closes-false : (m : ℕ) (w : ℕ → ℤ) → total w leaf.helpers ≡ pos 0 → is_multiple m (pos 0) ≡ true → opened ≡ NotCong (input_row coefs constant) m → AreEven m w → is_multiple m (neg_ℤ (w p) -ℤ constant) ≡ true → closes_by_residue facts m (terms_from 0 (by_values w (pos 0))) ≡ true
  residue_closes-false m w worthless none opened_is even same =
      residue_closes-denied facts m (by_values w (pos 0)) (input_row coefs constant) (subst (Contains facts) opened_is opened_there)
      (may_leader (may_add_modulo m) (λ a row. refl) leaf pred b opened n p (value_mix w (pos 0) p) twin refl refl)
      (each_variable leaf (λ x. is_multiple m (sum_of_facts (coefficient x) facts (by_values w (pos 0)) +ℤ (negsuc 0 *ℤ coefficient_in (input_row coefs constant).terms x)) ≡ true)
      at_input at_state at_move at_past)
      (let e = value-constant leaf pred b opened n p twin w (pos 0) coefs constant helpers worthless is in
      let z = zero-*ℤ constant in
      let f = minus_one constant in
      ap (is_multiple m) (let h : (sum_of_facts constant_of facts (by_values w (pos 0)) +ℤ (negsuc 0 *ℤ constant)) ≡ (neg_ℤ (w p) -ℤ constant) = omega (arith, ints, e, z, f) in h) ∙ same)
    where
      row-at : (x : ℕ) → coefficient_in (input_row coefs constant).terms x ≡ get_or coefs x (pos 0)
      row-at x = ap (λ row. coefficient_in row.terms x) (sym is.row) ∙ opened-at leaf pred b opened n p twin coefs constant x is

      row-past : (x : ℕ) → length leaf.inputs ≤ x → coefficient_in (input_row coefs constant).terms x ≡ pos 0
      row-past x l = row-at x ∙ get_or_past coefs x (pos 0) (omega (arith, is.long))

      plus_none : (x : ℕ) (c : ℤ) → length leaf.inputs ≤ x → sum_of_facts (coefficient x) facts (by_values w (pos 0)) ≡ c → (sum_of_facts (coefficient x) facts (by_values w (pos 0)) +ℤ (negsuc 0 *ℤ coefficient_in (input_row coefs constant).terms x)) ≡ c
      plus_none x c l e =
          let f = ap (λ k. negsuc 0 *ℤ k) (row-past x l) ∙ *ℤ-zero (negsuc 0) in omega (arith, ints, e, f)

      at_input : (i : ℕ) → i < length leaf.inputs → is_multiple m (sum_of_facts (coefficient i) facts (by_values w (pos 0)) +ℤ (negsuc 0 *ℤ coefficient_in (input_row coefs constant).terms i)) ≡ true
      at_input i l =
          let e = value-input leaf pred b opened n p twin w (pos 0) coefs constant i is l (input_below i l) in
          let z = zero-*ℤ (get_or coefs i (pos 0)) in
          let f = ap (λ k. negsuc 0 *ℤ k) (row-at i) ∙ minus_one (get_or coefs i (pos 0)) in
          ap (is_multiple m) (let h : (sum_of_facts (coefficient i) facts (by_values w (pos 0)) +ℤ (negsuc 0 *ℤ coefficient_in (input_row coefs constant).terms i)) ≡ (w (get_or leaf.inputs i 0) -ℤ get_or coefs i (pos 0)) = omega (arith, ints, e, z, f) in h) ∙ even.of_inputs i l

      at_state : (z : ℕ) → z < length leaf.states → is_multiple m (sum_of_facts (coefficient (length leaf.inputs + z)) facts (by_values w (pos 0)) +ℤ (negsuc 0 *ℤ coefficient_in (input_row coefs constant).terms (length leaf.inputs + z))) ≡ true
      at_state z l =
          ap (is_multiple m) (plus_none (length leaf.inputs + z) _ (omega arith) (value-state leaf pred b opened n p twin w (pos 0) coefs constant z is l))
          ∙ state_passes (λ c. is_multiple m c ≡ true) w z none (even.of_states z l)

      at_move : (t : ℕ) → t < length leaf.moves → is_multiple m (sum_of_facts (coefficient (length leaf.inputs + length leaf.states + t)) facts (by_values w (pos 0)) +ℤ (negsuc 0 *ℤ coefficient_in (input_row coefs constant).terms (length leaf.inputs + length leaf.states + t))) ≡ true
      at_move t l =
          ap (is_multiple m) (plus_none (length leaf.inputs + length leaf.states + t) _ (omega arith) (value-move leaf pred b opened n p twin w (pos 0) coefs constant t a_move is below l (move_below t a_move l)))
          ∙ All-get_or (λ t. is_multiple m ((w t.r +ℤ w t.s) -ℤ (w t.p +ℤ w t.q)) ≡ true) leaf.moves t a_move l even.of_moves

      at_past : (j : ℕ) → is_multiple m (sum_of_facts (coefficient (length leaf.inputs + length leaf.states + (length leaf.moves + j))) facts (by_values w (pos 0)) +ℤ (negsuc 0 *ℤ coefficient_in (input_row coefs constant).terms (length leaf.inputs + length leaf.states + (length leaf.moves + j)))) ≡ true
      at_past j =
          ap (is_multiple m) (plus_none (length leaf.inputs + length leaf.states + (length leaf.moves + j)) _ (omega arith) (value-past leaf pred b opened n p twin w (pos 0) coefs constant j is below)) ∙ none
