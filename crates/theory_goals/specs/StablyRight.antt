-- StablyRight: a net whose outputs come to rest at a predicate's value, though its agents may go on changing.
use Rattle.std.specs.Prelude.{ℕ}
use Rattle.pres_ast.specs.PredTree.{PredTree}
use Rattle.pop_leaf.specs.NetModel.{NetModel}
use Rattle.pop_leaf.specs.Step.{Step}
use Rattle.pop_leaf.specs.Reaction.{IsSingle}
use Rattle.theory_fair.specs.StablyComputes.{MeetingStep}
use Rattle.theory_fair.specs.Synchronous.{SynchronousStep}
use Rattle.theory_fair.specs.OutputStable.{StablyOutputs}
use Rattle.theory_goals.specs.OutputStable.{ComesToOutput}
use Rattle.theory_goals.specs.AlmostSurely.{RestAlmostSurely}

-- From every crowd on the way, at most k steps for each agent lead to a crowd from which on every agent outputs the
-- predicate's value, whatever happens. So every fair execution stabilises to it.
pub record IsStablyRight (net : NetModel) (tree : PredTree) (k : ℕ) : Type 0 where
  pub computes : ComesToOutput (Step net) net tree k
  -- steps in which no leaf waits can lead there too
  pub synchronous : ComesToOutput (SynchronousStep net) net tree k
  -- and if no two moves of a leaf take the same states, meetings alone
  pub settles : IsSingle net → ComesToOutput (MeetingStep net) net tree k
  -- in every fair execution from an input the outputs come to rest, at the predicate's value
  pub fair : StablyOutputs (Step net) net tree
  -- so in every fair execution by steps in which no leaf waits
  pub fair_synchronous : StablyOutputs (SynchronousStep net) net tree
  -- for a single net, in the fair executions by meetings
  pub fair_meetings : IsSingle net → StablyOutputs (MeetingStep net) net tree
  -- for a single net, meetings of uniformly random pairs bring the outputs to rest with probability 1
  pub random : IsSingle net → RestAlmostSurely net tree k
