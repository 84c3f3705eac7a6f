use Rattle.pop_settle.proofs.GoalBounds.{chosen_short}
use Rattle.pop_settle.proofs.Rests.{settlement_right, resting_right}
use Rattle.pop_settle.proofs.rest_law.settlements_rest.Goals as goal

pub returns : goal.returns
returns c = record { right = settlement_right; rests = resting_right; short = chosen_short }
