use Rattle.theory_fair.proofs.Found.{middle_gives}
use Rattle.theory_fair.proofs.times.middle_gives_markov.Goals as goal

pub returns : goal.returns
returns c = middle_gives
