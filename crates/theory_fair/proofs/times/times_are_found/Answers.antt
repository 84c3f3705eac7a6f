use Rattle.theory_fair.proofs.Found.{times_found}
use Rattle.theory_fair.proofs.times.times_are_found.Goals as goal

pub returns : goal.returns
returns c = times_found
