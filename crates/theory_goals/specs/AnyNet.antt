-- AnyNet: fair executions of any net, whether it comes to rest or not.
use Rattle.std.specs.Prelude.{ℕ, List, length}
use Rattle.pop_leaf.specs.NetModel.{NetModel, CrowdModel, number_of_helpers}
use Rattle.pop_leaf.specs.InputCrowd.{IsInput}
use Rattle.pop_leaf.specs.Step.{Step}
use Rattle.theory_fair.specs.Executions.{IsFair}
use Rattle.theory_fair.specs.StablyComputes.{Relation, IsExecutionFrom, IsSameMap, IsSameMultiset, MultisetStep}
use Rattle.theory_fair.specs.StablyComputes.{MeetingStep}
use Rattle.theory_fair.specs.Synchronous.{SynchronousStep}
use Rattle.theory_fair.specs.Extensions.{ExtendFairly}

-- what holds of the fair executions of every net by these steps
pub record FairOfAnyNet (S : NetModel → Relation) : Type 0 where
  -- each finite execution from an input is the beginning of a fair one: fairness excludes none of them
  pub extend : (net : NetModel) → ExtendFairly (S net) net
  -- an execution from some order of an input's agents that is fair for maps is fair for multisets
  pub maps : (net : NetModel) (counts : List ℕ) (e : ℕ → CrowdModel)
      → IsInput (length net.variables) (number_of_helpers net) counts
      → IsExecutionFrom IsSameMultiset (S net) net counts e → IsFair IsSameMap (S net) e
      → IsFair IsSameMultiset (MultisetStep (S net)) e

-- so it does by steps, by steps in which no leaf waits, and by meetings
pub record FairOfAllKinds : Type 0 where
  pub steps : FairOfAnyNet Step
  pub synchronous : FairOfAnyNet SynchronousStep
  pub meetings : FairOfAnyNet MeetingStep
