-- The law of the flow facts.
use Rattle.std.proofs.Common.{◌≡◌, ℕ, ◌+◌, ◌-◌, ◌<◌, ◌≤◌, Bool, List, [], ◌∷◌, ◌++◌, length, map, get_or, refl, ap, sym, ◌∙◌, subst, arith}
use Rattle.std.specs.Prelude.{ℤ, pos, ◌+ℤ◌, ◌-ℤ◌, ◌*ℤ◌, Some, slice_get}
use Rattle.std.proofs.lemmas.List.{length-append}
use Rattle.std.proofs.lemmas.List.FromFn.{length-map-range_with_len}
use Rattle.std.proofs.lemmas.Option.{slice_get_within, get_or_from_slice_get}
use Rattle.pres_ast.specs.PredModel.{PredModel}
use Rattle.pop_leaf.specs.declared.leaf.Move.{Move}
use Rattle.pop_leaf.specs.LeafModel.{LeafModel, IsLeaf, IsMoveBelow}
use Rattle.pop_leaf.proofs.Quiet.{All-slice_get}
use Rattle.cert_base.specs.declared.fact.Fact.{Fact}
use Rattle.cert_base.specs.declared.fact.Fact.TheVariants.{Holds}
use Rattle.cert_base.specs.Rows.{move_variable, variable_count}
use Rattle.cert_base.specs.ClosingTests.{coefficient_in}
use Rattle.cert_base.specs.FactsAndCases.{states_of, flow, base_list, two_agents_fact, wrong_output_fact}
use Rattle.cert_base.specs.WeightedSums.{sum_of_facts, coefficient, constant_of}
use Rattle.cert_base.specs.FlowLaw.{valued_flow, FlowLaw}
use Rattle.cert_base.proofs.WeightedSums.{none_weighted, all_from, coefficient-sum, constant-sum}
use Rattle.cert_base.proofs.FlowSums.{law-input, law-state, law-move, law-past, law-constant}

-- multipliers for the first facts alone
weighted_sum-first : (value : Fact → ℤ) (fs gs : List Fact) (ms : List ℤ) → length ms ≤ length fs → sum_of_facts value (fs ++ gs) ms ≡ sum_of_facts value fs ms
weighted_sum-first value [] gs [] l = none_weighted value gs
weighted_sum-first value [] gs (m ∷ ms) l = absurd (omega arith)
weighted_sum-first value (f ∷ fs) gs [] l = refl
weighted_sum-first value (f ∷ fs) gs (m ∷ ms) l = ap (λ z. (m *ℤ value f) +ℤ z) (weighted_sum-first value fs gs ms (omega arith))

abbrev flows : LeafModel → List Fact
flows leaf = map (flow leaf) (states_of leaf)

abbrev values : LeafModel → (ℕ → ℤ) → List ℤ
values leaf w = map w (states_of leaf)

module _ (leaf : LeafModel) (w : ℕ → ℤ) (p : PredModel) (b : Bool) where
  few_values : length (values leaf w) ≤ length (flows leaf)
  few_values = omega (arith, length-map-range_with_len w 0 (length leaf.states), length-map-range_with_len (flow leaf) 0 (length leaf.states))

  few : length (values leaf w) ≤ length (base_list leaf p b)
  few = omega (arith, few_values, length-append (flows leaf) (two_agents_fact leaf ∷ Holds p b ∷ wrong_output_fact leaf b ∷ []))

  flow-coefficient : (x : ℕ) → coefficient_in (valued_flow leaf w p b).terms x ≡ sum_of_facts (coefficient x) (flows leaf) (values leaf w)
  flow-coefficient x =
      coefficient-sum x (base_list leaf p b) (base_list leaf p b) 0 (values leaf w) (all_from (base_list leaf p b)) few
      ∙ weighted_sum-first (coefficient x) (flows leaf) (two_agents_fact leaf ∷ Holds p b ∷ wrong_output_fact leaf b ∷ []) (values leaf w) few_values

  flow-constant : (valued_flow leaf w p b).constant ≡ sum_of_facts constant_of (flows leaf) (values leaf w)
  flow-constant =
      constant-sum (base_list leaf p b) (base_list leaf p b) 0 (values leaf w) (all_from (base_list leaf p b)) few
      ∙ weighted_sum-first constant_of (flows leaf) (two_agents_fact leaf ∷ Holds p b ∷ wrong_output_fact leaf b ∷ []) (values leaf w) few_values

  balanced-input : IsLeaf leaf → (i q : ℕ) → slice_get leaf.inputs i ≡ Some q → coefficient_in (valued_flow leaf w p b).terms i ≡ w q
  balanced-input is i q e =
      let l = slice_get_within leaf.inputs i q e in
      let at = get_or_from_slice_get leaf.inputs i q 0 e in
      let m : get_or leaf.inputs i 0 < length leaf.states = omega (arith, at, All-slice_get (λ z. z < length leaf.states) leaf.inputs i q is.inputs e) in
      flow-coefficient i ∙ law-input leaf w i l m ∙ ap w at

  balanced-move : IsLeaf leaf → (t : ℕ) (m : Move) → slice_get leaf.moves t ≡ Some m → coefficient_in (valued_flow leaf w p b).terms (move_variable leaf t) ≡ ((w m.r +ℤ w m.s) -ℤ (w m.p +ℤ w m.q))
  balanced-move is t m e =
      let l = slice_get_within leaf.moves t m e in
      let at = get_or_from_slice_get leaf.moves t m m e in
      let below = All-slice_get (IsMoveBelow (length leaf.states)) leaf.moves t m is.moves e in
      let P : Move → Type 0 = IsMoveBelow (length leaf.states) in
      flow-coefficient (move_variable leaf t)
      ∙ law-move leaf w t m l (subst P (sym at) below)
      ∙ ap (λ n. (w n.r +ℤ w n.s) -ℤ (w n.p +ℤ w n.q)) at

  balanced-other : (x : ℕ) → variable_count leaf ≤ x → coefficient_in (valued_flow leaf w p b).terms x ≡ pos 0
  balanced-other x l =
      let e : length leaf.inputs + length leaf.states + (length leaf.moves + (x - variable_count leaf)) ≡ x = omega arith in
      flow-coefficient x
      ∙ ap (λ y. sum_of_facts (coefficient y) (flows leaf) (values leaf w)) (sym e)
      ∙ law-past leaf w (x - variable_count leaf)

pub flows-balance : FlowLaw
flows-balance leaf w p b is = record {
  inputs = balanced-input leaf w p b is;
  states = λ q l. flow-coefficient leaf w p b (length leaf.inputs + q) ∙ law-state leaf w q l;
  moves = balanced-move leaf w p b is;
  others = balanced-other leaf w p b;
  constant = flow-constant leaf w p b ∙ law-constant leaf w;
}
