-- FlowLaw: what the flow facts add up to when each state has a value.
use Rattle.std.specs.Prelude.{◌≡◌, ℕ, ◌<◌, ◌≤◌, Bool, ℤ, pos, neg_ℤ, ◌+ℤ◌, ◌-ℤ◌, ◌*ℤ◌, length, map, Some, slice_get}
use Rattle.pres_ast.specs.PredModel.{PredModel}
use Rattle.pop_leaf.specs.declared.leaf.Move.{Move}
use Rattle.pop_leaf.specs.LeafModel.{LeafModel, IsLeaf}
use Rattle.cert_base.specs.declared.fact.Row.{Row}
use Rattle.cert_base.specs.Rows.{terms_from, input_variable, state_variable, move_variable, variable_count}
use Rattle.cert_base.specs.FactsAndCases.{states_of, helpers_starting, base_list}
use Rattle.cert_base.specs.ClosingTests.{sum_of, coefficient_in}
use Rattle.cert_base.specs.WeightedSums.{total}

-- the sum of the states' base facts, each times the value of its state
abbrev pub valued_flow : LeafModel → (ℕ → ℤ) → PredModel → Bool → Row
valued_flow leaf w p b = sum_of (base_list leaf p b) (terms_from 0 (map w (states_of leaf)))

-- the row is the values of the states in which agents start, helpers included, plus what the moves add to them, less
-- the values at the end
pub record BalancesValues (leaf : LeafModel) (w : ℕ → ℤ) (row : Row) : Type 0 where
  pub inputs : (i q : ℕ) → slice_get leaf.inputs i ≡ Some q → coefficient_in row.terms (input_variable leaf i) ≡ w q
  pub states : (q : ℕ) → q < length leaf.states → coefficient_in row.terms (state_variable leaf q) ≡ neg_ℤ (w q)
  pub moves : (t : ℕ) (m : Move) → slice_get leaf.moves t ≡ Some m
      → coefficient_in row.terms (move_variable leaf t) ≡ ((w m.r +ℤ w m.s) -ℤ (w m.p +ℤ w m.q))
  pub others : (x : ℕ) → variable_count leaf ≤ x → coefficient_in row.terms x ≡ pos 0
  pub constant : row.constant ≡ total (λ q. w q *ℤ pos (helpers_starting leaf q)) (states_of leaf)

abbrev pub FlowLaw : Type 0
FlowLaw =
    (leaf : LeafModel) (w : ℕ → ℤ) (p : PredModel) (b : Bool) → IsLeaf leaf
    → BalancesValues leaf w (valued_flow leaf w p b)
