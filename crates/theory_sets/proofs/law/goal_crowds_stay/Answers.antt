use Rattle.theory_sets.proofs.CrowdsStay.{crowds_stay}
use Rattle.theory_sets.proofs.law.goal_crowds_stay.Goals as goal

pub returns : goal.returns
returns c = crowds_stay
