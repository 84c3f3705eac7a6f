use Rattle.theory_goals.proofs.Flickers.{flickers}
use Rattle.theory_goals.proofs.law.flickering_is_right.Goals as goal

pub returns : goal.returns
returns c = flickers
