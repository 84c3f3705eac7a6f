-- GoalEnds: the executions that a goal's tree speaks of, and what it says of them.
use Rattle.std.specs.Prelude.{◌≡◌, ℕ, Bool, false, List, Some, All, Contains, length, slice_get}
use Rattle.pres_ast.specs.PredTree.{PredTree}
use Rattle.pres_ast.specs.PredicateValue.{predicate_value}
use Rattle.pop_leaf.specs.LeafModel.{LeafModel}
use Rattle.pop_leaf.specs.InputCrowd.{leaf_input_crowd, IsInput}
use Rattle.pop_leaf.specs.Step.{LeafStep}
use Rattle.pop_leaf.specs.Reachable.{Reachable}
use Rattle.pop_leaf.specs.Terminal.{IsTerminal}
use Rattle.cert_base.specs.declared.fact.Fact.{Fact}
use Rattle.cert_base.specs.Valuation.{Valuation}
use Rattle.cert_base.specs.FactsAndCases.{is_in}
use Rattle.cert_base.specs.Ends.{IsEndFor, MeetsAll}

-- all agents are in the set
abbrev pub IsWithin : List ℕ → List ℕ → Type 0
IsWithin set crowd = All (Contains set) crowd

pub record IsWithinOne (sets : List (List ℕ)) (crowd : List ℕ) : Type 0 where
  pub set : List ℕ
  pub listed : Contains sets set
  pub within : IsWithin set crowd

-- from each input at which the predicate has this value, each reachable crowd in which `dead` has no step has all
-- agents in one of the sets
abbrev pub EndsInside : (leaf dead : LeafModel) → PredTree → Bool → List (List ℕ) → Type 0
EndsInside leaf dead tree value sets =
    (counts end : List ℕ) → IsInput (length leaf.inputs) (length leaf.helpers) counts
    → predicate_value tree counts ≡ value
    → Reachable (LeafStep leaf) (leaf_input_crowd leaf counts) end → IsTerminal (LeafStep dead) end
    → IsWithinOne sets end

-- an agent is outside the set
pub record HasOutside (crowd set : List ℕ) : Type 0 where
  pub agent : ℕ
  pub state : ℕ
  pub there : slice_get crowd agent ≡ Some state
  pub outside : is_in set state ≡ false

-- an execution from an input at which the predicate has the value to a crowd in which `dead` has no step, and each of
-- the sets has an agent outside
pub record IsOutsideEnd (leaf dead : LeafModel) (tree : PredTree) (value : Bool) (sets : List (List ℕ))
    (count : Valuation) : Type 0 where
  pub reached : IsEndFor leaf dead count
  pub has_value : predicate_value tree reached.counts ≡ value
  pub outside : All (HasOutside reached.end) sets

-- whatever is dead at the end, every end with an agent outside each of the sets meets all the facts
abbrev pub HoldAtOutsideEnds : LeafModel → PredTree → Bool → List (List ℕ) → List Fact → Type 0
HoldAtOutsideEnds leaf tree value sets facts =
    (dead : LeafModel) (count : Valuation) → IsOutsideEnd leaf dead tree value sets count → MeetsAll count facts
