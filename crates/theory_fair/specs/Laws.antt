-- Laws: a net whose crowds can always be led to a right end stably computes its predicate.
use Rattle.std.specs.Prelude.{◌≡◌, ◌≢◌, ℕ, ◌≤◌, List, length, All}
use Rattle.pres_ast.specs.PredTree.{PredTree}
use Rattle.pres_ast.specs.PredicateValue.{predicate_value}
use Rattle.pop_leaf.specs.NetModel.{NetModel, CrowdModel, IsTuple, number_of_helpers, output_of}
use Rattle.pop_leaf.specs.InputCrowd.{IsInput, input_crowd}
use Rattle.pop_leaf.specs.Step.{Step}
use Rattle.pop_leaf.specs.Reachable.{Reachable}
use Rattle.pop_leaf.specs.Terminal.{IsTerminal}
use Rattle.theory_fair.specs.Executions.{IsExecution, IsFair}
use Rattle.theory_fair.specs.StablyComputes.{Relation, IsExecutionFrom, StaysTerminalBy, IsSameMap, IsSameMultiset}
use Rattle.theory_fair.specs.StablyComputes.{MultisetStep, MeetingStep, Stabilises, StablyComputes}
use Rattle.theory_fair.specs.Synchronous.{SynchronousStep}
use Rattle.theory_fair.specs.Extensions.{ExtendFairly}

-- at a crowd that was reached from the input with these counts
pub record EndsRight (S : Relation) (net : NetModel) (tree : PredTree) (counts : List ℕ) (crowd : CrowdModel)
    : Type 0 where
  -- the steps S lead to a terminal crowd
  pub ends : (end : CrowdModel) × IsTerminal (Step net) end × Reachable S crowd end
  -- if the crowd is terminal, the output of every agent is the predicate's value
  pub right : IsTerminal (Step net) crowd → All (λ tuple. output_of net tuple ≡ predicate_value tree counts) crowd

-- from every crowd reached from an input, the steps S lead to a terminal crowd, and each terminal one is right
abbrev pub AlwaysEndsRight : Relation → NetModel → PredTree → Type 0
AlwaysEndsRight S net tree =
    (counts : List ℕ) (crowd : CrowdModel) → IsInput (length net.variables) (number_of_helpers net) counts
    → Reachable (Step net) (input_crowd net counts) crowd → EndsRight S net tree counts crowd

abbrev pub FairStepsStabilise : Type 0
FairStepsStabilise =
    (net : NetModel) (tree : PredTree) → AlwaysEndsRight (Step net) net tree → StablyComputes (Step net) net tree

abbrev pub FairMeetingsStabilise : Type 0
FairMeetingsStabilise =
    (net : NetModel) (tree : PredTree) → AlwaysEndsRight (MeetingStep net) net tree
    → StablyComputes (MeetingStep net) net tree

abbrev pub FairSynchronousStabilise : Type 0
FairSynchronousStabilise =
    (net : NetModel) (tree : PredTree) → AlwaysEndsRight (SynchronousStep net) net tree
    → StablyComputes (SynchronousStep net) net tree

abbrev pub TerminalIsStable : Type 0
TerminalIsStable =
    (net : NetModel) (tree : PredTree) → AlwaysEndsRight (Step net) net tree
    → StaysTerminalBy IsSameMap (Step net) net tree × StaysTerminalBy IsSameMultiset (MultisetStep (Step net)) net tree

-- a terminal crowd that stays unchanged is a fair execution
abbrev pub StandingIsFair : Type 0
StandingIsFair =
    (net : NetModel) (crowd : CrowdModel) → 2 ≤ length crowd → All (IsTuple net) crowd → IsTerminal (Step net) crowd
    → IsExecution (Step net) (λ i. crowd) × IsFair IsSameMap (Step net) (λ i. crowd)

-- a crowd that stays unchanged while a step leads to another one is not fair
abbrev pub WaitingIsUnfair : Type 0
WaitingIsUnfair =
    (net : NetModel) (crowd next : CrowdModel) → Step net crowd next → next ≢ crowd
    → ¬ IsFair IsSameMap (Step net) (λ i. crowd)

-- an execution from an input with these counts, fair for configurations as maps
pub record FairExecution (S : Relation) (net : NetModel) (counts : List ℕ) : Type 0 where
  pub crowds : ℕ → CrowdModel
  pub runs : IsExecutionFrom IsSameMap S net counts crowds
  pub fair : IsFair IsSameMap S crowds

-- from each input there is a fair execution
abbrev pub SomeAreFair : Type 0
SomeAreFair =
    (net : NetModel) (tree : PredTree) (counts : List ℕ) → AlwaysEndsRight (Step net) net tree
    → IsInput (length net.variables) (number_of_helpers net) counts → FairExecution (Step net) net counts

-- if a terminal crowd can always be reached and each is right, every fair execution stabilises with the right value
pub record FairExecutionsStabilise : Type 0 where
  pub steps : FairStepsStabilise
  pub meetings : FairMeetingsStabilise
  pub synchronous : FairSynchronousStabilise
  -- once terminal, it stays so, fair or not
  pub rest : TerminalIsStable
  -- the law isn't vacuous: such a net has a fair execution from every input
  pub some : SomeAreFair

-- there are fair executions, and others
pub record FairAndUnfair : Type 0 where
  pub fair : StandingIsFair
  pub unfair : WaitingIsUnfair

-- if a terminal crowd can always be reached, each finite execution from an input is the beginning of a fair one
pub record FiniteExecutionsExtend : Type 0 where
  pub steps : (net : NetModel) (tree : PredTree) → AlwaysEndsRight (Step net) net tree → ExtendFairly (Step net) net
  pub meetings : (net : NetModel) (tree : PredTree) → AlwaysEndsRight (MeetingStep net) net tree
      → ExtendFairly (MeetingStep net) net
  pub synchronous : (net : NetModel) (tree : PredTree) → AlwaysEndsRight (SynchronousStep net) net tree
      → ExtendFairly (SynchronousStep net) net

-- an execution by the steps S from some order of an input's agents that is fair with configurations as maps
pub record FairMapsAreFair (S : Relation) (net : NetModel) (tree : PredTree) : Type 0 where
  -- is fair with configurations as multisets
  pub fair : (counts : List ℕ) (e : ℕ → CrowdModel) → IsInput (length net.variables) (number_of_helpers net) counts
      → IsExecutionFrom IsSameMultiset S net counts e
      → IsFair IsSameMap S e → IsFair IsSameMultiset (MultisetStep S) e
  -- so it stabilises, as it does from the input crowd itself
  pub stabilises : (counts : List ℕ) (e : ℕ → CrowdModel)
      → IsInput (length net.variables) (number_of_helpers net) counts
      → IsExecutionFrom IsSameMultiset S net counts e → IsFair IsSameMap S e
      → Stabilises IsSameMultiset net (predicate_value tree counts) e

pub record MapsAndMultisets : Type 0 where
  pub steps : (net : NetModel) (tree : PredTree) → AlwaysEndsRight (Step net) net tree
      → FairMapsAreFair (Step net) net tree
  pub meetings : (net : NetModel) (tree : PredTree) → AlwaysEndsRight (MeetingStep net) net tree
      → FairMapsAreFair (MeetingStep net) net tree
  pub synchronous : (net : NetModel) (tree : PredTree) → AlwaysEndsRight (SynchronousStep net) net tree
      → FairMapsAreFair (SynchronousStep net) net tree
