-- The counts of an execution, as a valuation, and that other counts of the same inputs meet what speaks of these alone.
use Rattle.std.proofs.Common.{◌≡◌, ℕ, zero, suc, ◌+◌, ◌-◌, ◌<◌, ◌≤◌, true, List, [], ◌∷◌, length, map, refl, ap, sym, subst, ◌∙◌, arith}
use Rattle.std.specs.Prelude.{pos, ◌+ℤ◌, ◌≤ℤ◌, All, count_by, slice_index, nat_lt, if◌then◌else◌, ◌==◌}
use Rattle.std.specs.List.{list_all, range_with_len}
use Rattle.std.proofs.lemmas.Bool.{lt-ltb, le-ltb, ltb-true, leb-true, and_parts}
use Rattle.std.proofs.lemmas.List.Elements.{All-map}
use Rattle.pres_ast.specs.PredicateValue.{predicate_value, is_multiple}
use Rattle.pop_leaf.specs.LeafModel.{LeafModel}
use Rattle.pop_leaf.specs.InputCrowd.{leaf_input_crowd}
use Rattle.pop_leaf.specs.Step.{LeafStep}
use Rattle.pop_leaf.specs.Reachable.{Leads}
use Rattle.cert_base.specs.declared.fact.Term.{Term}
use Rattle.cert_base.specs.declared.fact.Row.{Row}
use Rattle.cert_base.specs.declared.fact.Fact.{Fact}
use Rattle.cert_base.specs.declared.fact.Fact.TheVariants.{Ge, Eq, Cong, NotCong, Holds}
use Rattle.cert_base.specs.Valuation.{Valuation, terms_value, row_value, MeetsFact, times_taken, IsOfExecution}
use Rattle.cert_base.specs.FactsAndCases.{states_of, flow, has_inputs_alone, is_about_inputs}
use Rattle.cert_base.proofs.FlowFacts.{flow_met}
use Rattle.base_laws.proofs.Ranges.{all_range}

abbrev pub count_for : LeafModel → List ℕ → List ℕ → (ℕ → ℕ) → Valuation
count_for leaf counts end taken v =
    if nat_lt v (length leaf.inputs) then slice_index counts v
    else if nat_lt v (length leaf.inputs + length leaf.states) then count_by (λ x. x == (v - length leaf.inputs)) end
    else taken (v - (length leaf.inputs + length leaf.states))

pub execution_has : (leaf : LeafModel) (counts : List ℕ) (path : List (List ℕ)) (end : List ℕ) (way : Leads (LeafStep leaf) (leaf_input_crowd leaf counts) path end) → IsOfExecution leaf (count_for leaf counts end (λ t. times_taken leaf t (leaf_input_crowd leaf counts) path end way)) counts path end way
execution_has leaf counts path end way = record {
  inputs = λ i l. rw (lt-ltb i (length leaf.inputs) l) refl;
  states = λ q l. let past = le-ltb (length leaf.inputs + q) (length leaf.inputs) (omega arith) in let here = lt-ltb (length leaf.inputs + q) (length leaf.inputs + length leaf.states) (omega arith) in let number : length leaf.inputs + q - length leaf.inputs ≡ q = omega arith in rw (past, here, number) refl;
  moves = λ t l. let past = le-ltb (length leaf.inputs + length leaf.states + t) (length leaf.inputs) (omega arith) in let there = le-ltb (length leaf.inputs + length leaf.states + t) (length leaf.inputs + length leaf.states) (omega arith) in let number : length leaf.inputs + length leaf.states + t - (length leaf.inputs + length leaf.states) ≡ t = omega arith in rw (past, there, number) refl;
}

-- each execution meets the flow facts
pub flows_met : (leaf : LeafModel) (count : Valuation) (counts : List ℕ) (path : List (List ℕ)) (end : List ℕ) (way : Leads (LeafStep leaf) (leaf_input_crowd leaf counts) path end) → length counts ≡ length leaf.inputs → IsOfExecution leaf count counts path end way → All (MeetsFact count) (map (flow leaf) (states_of leaf))
flows_met leaf count counts path end way long is =
    All-map (MeetsFact count) (flow leaf) (states_of leaf)
    (all_range (λ q. MeetsFact count (flow leaf q)) 0 (length leaf.states)
    (λ q a l. flow_met leaf count counts path end way long is q (let m : q < length leaf.states = omega arith in m)))

module _ (leaf : LeafModel) (one other : Valuation) (same : (i : ℕ) → i < length leaf.inputs → other i ≡ one i) where
  terms_same : (terms : List Term) → list_all (λ t. nat_lt t.at (length leaf.inputs)) terms ≡ true → terms_value other terms ≡ terms_value one terms
  terms_same [] e = refl
  terms_same (t ∷ terms) e =
      let parts = and_parts (nat_lt t.at (length leaf.inputs)) (list_all (λ t. nat_lt t.at (length leaf.inputs)) terms) e in
      let here = same t.at (ltb-true t.at (length leaf.inputs) parts.0) in
      let rest = terms_same terms parts.1 in
      rw (here, rest) refl

  row_same : (row : Row) → has_inputs_alone leaf row ≡ true → row_value other row ≡ row_value one row
  row_same row e = ap (λ z. z +ℤ row.constant) (terms_same row.terms e)

  counts_same : (k n : ℕ) → k + n ≤ length leaf.inputs → map other (range_with_len k n) ≡ map one (range_with_len k n)
  counts_same k zero l = refl
  counts_same k (suc n) l =
      let here = same k (omega (arith, l)) in
      let rest = counts_same (k + 1) n (omega (arith, l)) in
      rw (here, rest) refl

  -- a fact about the inputs says the same of other counts of the same inputs
  pub about_inputs-same : (fact : Fact) → MeetsFact one fact → is_about_inputs leaf fact ≡ true → MeetsFact other fact
  about_inputs-same (Ge row) h e = subst (λ z. pos 0 ≤ℤ z) (sym (row_same row e)) h
  about_inputs-same (Eq row) h e = row_same row e ∙ h
  about_inputs-same (Cong row m) h e = ap (is_multiple m) (row_same row e) ∙ h
  about_inputs-same (NotCong row m) h e = ap (is_multiple m) (row_same row e) ∙ h
  about_inputs-same (Holds p b) h e =
      let few = leb-true p.variables (length leaf.inputs) e in
      ap (predicate_value p.tree) (counts_same 0 p.variables (omega (arith, few))) ∙ h
