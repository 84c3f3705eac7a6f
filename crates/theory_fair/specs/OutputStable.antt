-- OutputStable: fair executions in which the outputs come to rest, though agents may go on changing (Angluin and others
-- 2006). A net whose crowds can always be led into a goal has no others.
use Rattle.std.specs.Prelude.{◌≡◌, ℕ, ◌≤◌, Bool, List, length, All}
use Rattle.pres_ast.specs.PredTree.{PredTree}
use Rattle.pres_ast.specs.PredicateValue.{predicate_value}
use Rattle.pop_leaf.specs.NetModel.{NetModel, CrowdModel, number_of_helpers, output_of}
use Rattle.pop_leaf.specs.InputCrowd.{IsInput, input_crowd}
use Rattle.pop_leaf.specs.Step.{Step}
use Rattle.pop_leaf.specs.Reachable.{Reachable}
use Rattle.theory_fair.specs.Executions.{IsFair}
use Rattle.theory_fair.specs.StablyComputes.{Relation, IsExecutionFrom, IsSameMap, IsSameMultiset, MultisetStep, MeetingStep}
use Rattle.theory_fair.specs.Synchronous.{SynchronousStep}
use Rattle.theory_fair.specs.Laws.{AlwaysEndsRight}

-- every agent outputs the value
abbrev pub AllOutput : NetModel → Bool → CrowdModel → Type 0
AllOutput net value crowd = All (λ tuple. output_of net tuple ≡ value) crowd

-- from time i on the value is every agent's output, and stays so whatever happens
abbrev pub IsOutputStableFrom : NetModel → Bool → (ℕ → CrowdModel) → ℕ → Type 0
IsOutputStableFrom net value e i =
    (j : ℕ) (later : CrowdModel) → i ≤ j → Reachable (Step net) (e j) later → AllOutput net value later

-- from some time on: there can't be no such time
abbrev pub OutputsStabilise : NetModel → Bool → (ℕ → CrowdModel) → Type 0
OutputsStabilise net value e = ¬ ((i : ℕ) → ¬ IsOutputStableFrom net value e i)

abbrev pub StablyOutputsBy : (Same S : Relation) → NetModel → PredTree → Type 0
StablyOutputsBy Same S net tree =
    (counts : List ℕ) (e : ℕ → CrowdModel) → IsInput (length net.variables) (number_of_helpers net) counts
    → IsExecutionFrom Same S net counts e → IsFair Same S e → OutputsStabilise net (predicate_value tree counts) e

-- in every fair execution by the steps S the outputs become the predicate's value for ever, with configurations as maps
-- and as multisets
pub record StablyOutputs (S : Relation) (net : NetModel) (tree : PredTree) : Type 0 where
  pub of_maps : StablyOutputsBy IsSameMap S net tree
  pub of_multisets : StablyOutputsBy IsSameMultiset (MultisetStep S) net tree

-- for each input, a set of crowds in which the outputs have come to rest
pub record IsGoal (S : Relation) (net : NetModel) (tree : PredTree) (Goal : List ℕ → CrowdModel → Type 0) : Type 0 where
  -- from every crowd reached from the input, the steps S lead to one of the set
  pub reached : (counts : List ℕ) (crowd : CrowdModel) → IsInput (length net.variables) (number_of_helpers net) counts
      → Reachable (Step net) (input_crowd net counts) crowd
      → (end : CrowdModel) × Goal counts end × Reachable S crowd end
  -- no step leaves it
  pub closed : (counts : List ℕ) (before after : CrowdModel) → Goal counts before → Step net before after
      → Goal counts after
  -- in it the predicate's value is every agent's output
  pub right : (counts : List ℕ) (crowd : CrowdModel) → Goal counts crowd
      → AllOutput net (predicate_value tree counts) crowd
  -- the order of the agents doesn't matter
  pub unordered : (counts : List ℕ) (crowd other : CrowdModel) → Goal counts crowd → IsSameMultiset crowd other
      → Goal counts other

-- if a goal can always be reached, the outputs of every fair execution come to rest at the predicate's value
pub record GoalsStabilise (Goal : List ℕ → CrowdModel → Type 0) : Type 0 where
  pub steps : (net : NetModel) (tree : PredTree) → IsGoal (Step net) net tree Goal → StablyOutputs (Step net) net tree
  pub meetings : (net : NetModel) (tree : PredTree) → IsGoal (MeetingStep net) net tree Goal
      → StablyOutputs (MeetingStep net) net tree
  pub synchronous : (net : NetModel) (tree : PredTree) → IsGoal (SynchronousStep net) net tree Goal
      → StablyOutputs (SynchronousStep net) net tree

-- so for a net whose crowds can always be led to a right terminal one: the terminal crowds are a goal
pub record SilentOutputsStabilise : Type 0 where
  pub steps : (net : NetModel) (tree : PredTree) → AlwaysEndsRight (Step net) net tree → StablyOutputs (Step net) net tree
  pub meetings : (net : NetModel) (tree : PredTree) → AlwaysEndsRight (MeetingStep net) net tree
      → StablyOutputs (MeetingStep net) net tree
  pub synchronous : (net : NetModel) (tree : PredTree) → AlwaysEndsRight (SynchronousStep net) net tree
      → StablyOutputs (SynchronousStep net) net tree
