use Rattle.theory_fair.proofs.Goals.{silent_are_stable}
use Rattle.theory_fair.proofs.law.silent_outputs_stabilise.Goals as goal

pub returns : goal.returns
returns c = silent_are_stable
