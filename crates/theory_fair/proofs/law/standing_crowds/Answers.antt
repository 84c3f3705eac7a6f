use Rattle.theory_fair.proofs.Standing.{standing_fair, waiting_unfair}
use Rattle.theory_fair.proofs.law.standing_crowds.Goals as goal

pub returns : goal.returns
returns c = record { fair = standing_fair; unfair = waiting_unfair }
