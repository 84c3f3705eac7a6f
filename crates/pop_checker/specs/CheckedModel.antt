-- CheckedModel: a net, the predicate that it computes, and the steps that each agent needs.
use Rattle.std.specs.Prelude.{◌≡◌, ℕ, length}
use Rattle.pres_ast.specs.PredModel.{PredModel}
use Rattle.pop_leaf.specs.NetModel.{NetModel}
use Rattle.pop_leaf.specs.Reaction.{IsSingle}
use Rattle.pop_leaf.specs.Step.{Step}
use Rattle.theory_fair.specs.StablyComputes.{MeetingStep, StablyComputes}
use Rattle.theory_fair.specs.Synchronous.{SynchronousStep}
use Rattle.theory_random.specs.ComputesAlmostSurely.{ComputesAlmostSurely}
use Rattle.pop_checker.specs.Computes.{Computes, EndsByMeetings}

pub record CheckedModel : Type 0 where
  pub net : NetModel
  pub pred : PredModel
  -- the bound per agent
  pub bound : ℕ

-- what a checked net keeps
pub record IsChecked (checked : CheckedModel) : Type 0 where
  pub variables : checked.pred.variables ≡ length checked.net.variables
  pub computes : Computes checked.net checked.pred.tree checked.bound
  -- if no two moves of a leaf take the same states, meetings alone can lead the net to its end
  pub settles : IsSingle checked.net → EndsByMeetings checked.net checked.bound
  -- every fair execution from an input stabilises with the predicate's value, also if no leaf waits in its steps, and
  -- for a single net those by meetings too
  pub fair : StablyComputes (Step checked.net) checked.net checked.pred.tree
  pub fair_synchronous : StablyComputes (SynchronousStep checked.net) checked.net checked.pred.tree
  pub fair_meetings : IsSingle checked.net → StablyComputes (MeetingStep checked.net) checked.net checked.pred.tree
  -- for a single net, meetings of uniformly random pairs lead to that end with probability 1
  pub random : IsSingle checked.net → ComputesAlmostSurely checked.net checked.pred.tree checked.bound
