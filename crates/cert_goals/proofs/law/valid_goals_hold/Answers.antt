use Rattle.cert_goals.proofs.ValidGoals.{all_valid_hold}
use Rattle.cert_goals.proofs.law.valid_goals_hold.Goals as goal

pub returns : goal.returns
returns c = all_valid_hold
