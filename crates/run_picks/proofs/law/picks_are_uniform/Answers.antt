use Rattle.run_picks.proofs.CountedPicks.{uniform}
use Rattle.run_picks.proofs.law.picks_are_uniform.Goals as goal

pub returns : goal.returns
returns c = uniform
