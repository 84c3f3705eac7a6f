-- StablyComputes: every fair execution from an input stabilises, with the predicate's value as every agent's output
-- (Angluin, Aspnes, Diamadi, Fischer, Peralta 2006; as multisets Blondin, Esparza, Jaax, Meyer 2017).
use Rattle.std.specs.Prelude.{◌≡◌, ℕ, ◌≤◌, Bool, List, length, All}
use Rattle.std.specs.List.Sorted.{IsPermutation}
use Rattle.pres_ast.specs.PredTree.{PredTree}
use Rattle.pres_ast.specs.PredicateValue.{predicate_value}
use Rattle.pop_leaf.specs.NetModel.{NetModel, Tuple, CrowdModel, number_of_helpers, output_of}
use Rattle.pop_leaf.specs.InputCrowd.{IsInput, input_crowd}
use Rattle.pop_leaf.specs.Step.{Meets, Step}
use Rattle.pop_leaf.specs.Terminal.{IsTerminal}
use Rattle.pop_leaf.specs.Reaction.{reaction}
use Rattle.theory_fair.specs.Executions.{IsExecution, IsFair}

-- a relation of crowds: which count as one configuration, or which steps there are
abbrev pub Relation : Type 1
Relation = CrowdModel → CrowdModel → Type 0

-- an execution by the steps S from the input with these counts
abbrev pub IsExecutionFrom : (Same S : Relation) → NetModel → List ℕ → (ℕ → CrowdModel) → Type 0
IsExecutionFrom Same S net counts e = Same (input_crowd net counts) (e 0) × IsExecution S e

-- from time i on all crowds are terminal and one configuration, and the value is every agent's output
pub record IsStableFrom (Same : Relation) (net : NetModel) (value : Bool) (e : ℕ → CrowdModel) (i : ℕ) : Type 0 where
  pub terminal : (j : ℕ) → i ≤ j → IsTerminal (Step net) (e j)
  pub same : (j : ℕ) → i ≤ j → Same (e i) (e j)
  pub right : (j : ℕ) → i ≤ j → All (λ tuple. output_of net tuple ≡ value) (e j)

-- it is stable from some time on: there can't be no such time
abbrev pub Stabilises : Relation → NetModel → Bool → (ℕ → CrowdModel) → Type 0
Stabilises Same net value e = ¬ ((i : ℕ) → ¬ IsStableFrom Same net value e i)

-- the fair executions by the steps S from each input stabilise with the predicate's value
abbrev pub StablyComputesBy : (Same S : Relation) → NetModel → PredTree → Type 0
StablyComputesBy Same S net tree =
    (counts : List ℕ) (e : ℕ → CrowdModel) → IsInput (length net.variables) (number_of_helpers net) counts
    → IsExecutionFrom Same S net counts e → IsFair Same S e → Stabilises Same net (predicate_value tree counts) e

-- once a crowd is terminal, all later ones of an execution are that configuration, fair or not, and the output is right
abbrev pub StaysTerminalBy : (Same S : Relation) → NetModel → PredTree → Type 0
StaysTerminalBy Same S net tree =
    (counts : List ℕ) (e : ℕ → CrowdModel) → IsInput (length net.variables) (number_of_helpers net) counts
    → IsExecutionFrom Same S net counts e → (i : ℕ) → IsTerminal (Step net) (e i)
    → IsStableFrom Same net (predicate_value tree counts) e i

-- a configuration is a map from agents to states (Angluin and others 2006)
abbrev pub IsSameMap : Relation
IsSameMap c d = c ≡ d

-- a configuration is a multiset of states (Blondin, Esparza, Jaax, Meyer 2017)
abbrev pub IsSameMultiset : Relation
IsSameMultiset c d = IsPermutation c d

-- a step between the multisets of two crowds
pub record MultisetStep (S : Relation) (c d : CrowdModel) : Type 0 where
  pub before : CrowdModel
  pub after : CrowdModel
  pub starts : IsSameMultiset c before
  pub step : S before after
  pub ends : IsSameMultiset after d

-- what a meeting in a run does: every leaf that has a move for the two takes its first one
abbrev pub Reacts : NetModel → Tuple → Tuple → Tuple → Tuple → Type 0
Reacts net x y x' y' = (x' ≡ (reaction net x y).0) × (y' ≡ (reaction net x y).1)

abbrev pub MeetingStep : NetModel → Relation
MeetingStep net = Meets (Reacts net)

-- every fair execution of the net stabilises with the predicate's value, with configurations as maps and as multisets
pub record StablyComputes (S : Relation) (net : NetModel) (tree : PredTree) : Type 0 where
  pub of_maps : StablyComputesBy IsSameMap S net tree
  pub of_multisets : StablyComputesBy IsSameMultiset (MultisetStep S) net tree
