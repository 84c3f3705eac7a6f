use Rattle.theory_fair.proofs.Goals.{goals_are_stable}
use Rattle.theory_fair.proofs.law.goals_stabilise.Goals as goal

pub returns : goal.returns
returns g c = goals_are_stable g.G.Goal.has
