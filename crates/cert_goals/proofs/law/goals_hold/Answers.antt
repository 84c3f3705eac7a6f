use Rattle.cert_goals.proofs.Goals.{all_goals_hold}
use Rattle.cert_goals.proofs.law.goals_hold.Goals as goal

pub returns : goal.returns
returns c = all_goals_hold
