-- Every wrong end meets the base facts, and every end with an agent outside each set of a goal meets the goal's facts.
use Rattle.std.proofs.Common.{◌≡◌, ◌≢◌, ◌⊎◌, inl, inr, ℕ, zero, suc, ◌+◌, ◌*◌, ◌<◌, ◌≤◌, Bool, true, false, List, [], ◌∷◌, ◌++◌, length, map, replicate, get_or, append_assoc, not, refl, ap, sym, subst, ◌∙◌, zero-add, arith}
use Rattle.std.specs.Prelude.{pos, negsuc, ◌*ℤ◌, sum, Some, slice_get, slice_index, slice_index_or, All}
use Rattle.std.specs.List.{range_with_len}
use Rattle.std.proofs.Math.IntN.{pos-*ℤ-pos}
use Rattle.std.proofs.lemmas.Int.{ints}
use Rattle.std.proofs.lemmas.Bool.{eq-eqb, cases_lt}
use Rattle.std.proofs.lemmas.List.Elements.{All-nil, All-cons, All-map, All-append}
use Rattle.std.proofs.lemmas.List.Sums.{sum_by-cons}
use Rattle.pres_ast.specs.PredModel.{PredModel}
use Rattle.pres_ast.specs.PredicateValue.{predicate_value}
use Rattle.pop_leaf.specs.LeafModel.{LeafModel, IsLeaf, one_at}
use Rattle.pop_leaf.proofs.Quiet.{All-slice_get}
use Rattle.cert_base.specs.declared.fact.Fact.{Fact}
use Rattle.cert_base.specs.declared.fact.Fact.TheVariants.{Ge, Holds}
use Rattle.cert_base.specs.Rows.{state_row}
use Rattle.cert_base.specs.Valuation.{Valuation, MeetsFact, input_counts}
use Rattle.cert_base.specs.FactsAndCases.{indicator, is_in, states_of, flow, two_agents_fact, differs, wrong_output_fact, base_list, outside_fact, goal_list}
use Rattle.cert_base.specs.Ends.{IsEndFor, HoldAtWrongEnds}
use Rattle.cert_base.specs.GoalEnds.{HasOutside, HoldAtOutsideEnds}
use Rattle.cert_base.specs.Parts.{input_list}
use Rattle.cert_base.proofs.Dead.{one_there}
use Rattle.cert_base.proofs.Executions.{flows_met}
use Rattle.cert_base.proofs.FlowFacts.{dot, terms_value-terms_from}
use Rattle.cert_base.proofs.Indicators.{sum_if, row_value-behind, sum_if-none}
use Rattle.cert_base.proofs.InRange.{end_in_range}
use Rattle.base_laws.proofs.Ranges.{get-range}

-- the state z of the range
pub range_get : (n z : ℕ) → z < n → slice_get (range_with_len 0 n) z ≡ Some z
range_get n z l = ap (λ zs. slice_get zs z) (sym (map-same_numbers 0 n)) ∙ get-range (λ z. z) n z l
  where
    map-same_numbers : (a n : ℕ) → map (λ z. z) (range_with_len a n) ≡ range_with_len a n
    map-same_numbers a zero = refl
    map-same_numbers a (suc n) = ap (λ zs. a ∷ zs) (map-same_numbers (a + 1) n)

-- ---- the inputs

counts_are : (count : Valuation) (k : ℕ) (counts : List ℕ) → ((j : ℕ) → j < length counts → count (k + j) ≡ slice_index counts j) → map count (range_with_len k (length counts)) ≡ counts
counts_are count k [] e = refl
counts_are count k (n ∷ counts) e =
    let here : count k ≡ n = ap count (let f : k ≡ k + 0 = omega arith in f) ∙ e 0 (omega arith) in
    let rest = counts_are count (k + 1) counts (λ j l. ap count (let f : k + 1 + j ≡ k + suc j = omega arith in f) ∙ e (suc j) (omega arith)) in
    cc

dot-ones : (count : Valuation) (k : ℕ) (counts : List ℕ) → ((j : ℕ) → j < length counts → count (k + j) ≡ slice_index counts j) → dot count k (replicate (length counts) (pos 1)) ≡ pos (sum counts)
dot-ones count k [] e = refl
dot-ones count k (n ∷ counts) e =
    let here : count k ≡ n = ap count (let f : k ≡ k + 0 = omega arith in f) ∙ e 0 (omega arith) in
    let rest = dot-ones count (k + 1) counts (λ j l. ap count (let f : k + 1 + j ≡ k + suc j = omega arith in f) ∙ e (suc j) (omega arith)) in
    let product : (pos 1 *ℤ pos (count k)) ≡ pos (1 * count k) = pos-*ℤ-pos 1 (count k) in
    let all : sum (n ∷ counts) ≡ n + sum counts = sum_by-cons (λ (x : ℕ). x) n counts in
    omega (arith, ints, here, rest, product, all)

-- ---- all facts

module _ (leaf dead : LeafModel) (p : PredModel) (value : Bool) (count : Valuation) (is : IsLeaf leaf) (variables : p.variables ≡ length leaf.inputs) (end : IsEndFor leaf dead count) (has_value : predicate_value p.tree end.counts ≡ value) where
  inputs_are : (j : ℕ) → j < length end.counts → count (0 + j) ≡ slice_index end.counts j
  inputs_are j l =
      ap count (zero-add j) ∙ end.execution.inputs j (let m : j < length leaf.inputs = omega (arith, end.input.one_each, l) in m)

  two_met : MeetsFact count (two_agents_fact leaf)
  two_met =
      let terms = terms_value-terms_from count 0 (replicate (length leaf.inputs) (pos 1)) in
      let ones = dot-ones count 0 end.counts inputs_are in
      let long : dot count 0 (replicate (length end.counts) (pos 1)) ≡ dot count 0 (replicate (length leaf.inputs) (pos 1)) = ap (λ n. dot count 0 (replicate n (pos 1))) end.input.one_each in
      let two = end.input.two_agents in
      omega (arith, ints, terms, ones, long, two)

  holds_met : MeetsFact count (Holds p value)
  holds_met =
      ap (predicate_value p.tree) (ap (input_counts count) (variables ∙ sym end.input.one_each) ∙ counts_are count 0 end.counts inputs_are)
      ∙ has_value

  inputs_met : All (MeetsFact count) (input_list leaf p value)
  inputs_met =
      All-append (MeetsFact count) (map (flow leaf) (states_of leaf)) (two_agents_fact leaf ∷ Holds p value ∷ []) (flows_met leaf count end.counts end.path end.end end.way end.input.one_each end.execution)
      (All-cons (MeetsFact count) (two_agents_fact leaf) (Holds p value ∷ []) two_met (All-cons (MeetsFact count) (Holds p value) [] holds_met (All-nil (MeetsFact count))))

  -- an agent is in a state that passes a test
  module _ (test : ℕ → Bool) (agent state : ℕ) (there : slice_get end.end agent ≡ Some state) (passes : test state ≡ true) where
    below : state < length leaf.states
    below =
        All-slice_get (λ (q : ℕ). q < length leaf.states) end.end agent state (end_in_range leaf is end.counts end.path end.end end.input.one_each end.way) there

    some_passes : (0 < sum_if count test (length leaf.inputs) (states_of leaf)) ⊎ (sum_if count test (length leaf.inputs) (states_of leaf) ≤ 0) → 0 < sum_if count test (length leaf.inputs) (states_of leaf)
    some_passes (inl l) = l
    some_passes (inr none) =
        let some = one_there state end.end agent state there in
        let one : one_at state state ≡ 1 = rw (eq-eqb state state refl) refl in
        let counted = end.execution.states state below in
        let zero_sum : sum_if count test (length leaf.inputs) (states_of leaf) ≡ 0 = omega (arith, none) in
        let no_one = sum_if-none count test (length leaf.inputs) (states_of leaf) zero_sum state state (range_get (length leaf.states) state below) passes in
        absurd (omega (arith, some, one, counted, no_one))

    some_met : MeetsFact count (Ge (state_row leaf (map (λ q. indicator (test q)) (states_of leaf)) (negsuc 0)))
    some_met =
        let row = row_value-behind count test (length leaf.inputs) (states_of leaf) (negsuc 0) in
        let some = some_passes (cases_lt 0 (sum_if count test (length leaf.inputs) (states_of leaf))) in
        omega (arith, ints, row, some)

  -- with what else holds
  and_met : (more : List Fact) → All (MeetsFact count) more → All (MeetsFact count) (map (flow leaf) (states_of leaf) ++ two_agents_fact leaf ∷ Holds p value ∷ more)
  and_met more met =
      subst (λ (facts : List Fact). All (MeetsFact count) facts) (append_assoc (map (flow leaf) (states_of leaf)) (two_agents_fact leaf ∷ Holds p value ∷ []) more)
      (All-append (MeetsFact count) (input_list leaf p value) more inputs_met met)

  outside_met : (set : List ℕ) → HasOutside end.end set → MeetsFact count (outside_fact leaf set)
  outside_met set h =
      some_met (λ q. not (is_in set q)) h.agent h.state h.there (let e : not (is_in set h.state) ≡ true = rw h.outside refl in e)

differs-true : (a b : Bool) → b ≢ a → differs a b ≡ true
differs-true true true ne = absurd (ne refl)
differs-true true false ne = refl
differs-true false true ne = refl
differs-true false false ne = absurd (ne refl)

pub wrong_ends-met : (leaf : LeafModel) (p : PredModel) (value : Bool) → IsLeaf leaf → p.variables ≡ length leaf.inputs → HoldAtWrongEnds leaf p.tree value (base_list leaf p value)
wrong_ends-met leaf p value is variables count end =
    and_met leaf leaf p value count is variables end.reached end.has_value (wrong_output_fact leaf value ∷ [])
    (All-cons (MeetsFact count) (wrong_output_fact leaf value) []
    (some_met leaf leaf p value count is variables end.reached end.has_value (λ q. differs value (slice_index_or leaf.outputs q false)) end.agent end.state end.there (differs-true value (slice_index_or leaf.outputs end.state false) end.wrong))
    (All-nil (MeetsFact count)))

pub outside_ends-met : (leaf : LeafModel) (p : PredModel) (value : Bool) (sets : List (List ℕ)) → IsLeaf leaf → p.variables ≡ length leaf.inputs → HoldAtOutsideEnds leaf p.tree value sets (goal_list leaf p value sets)
outside_ends-met leaf p value sets is variables dead count end =
    and_met leaf dead p value count is variables end.reached end.has_value (map (outside_fact leaf) sets)
    (All-map (MeetsFact count) (outside_fact leaf) sets
    (λ k d l. outside_met leaf dead p value count is variables end.reached end.has_value (get_or sets k d) (end.outside k d l)))
