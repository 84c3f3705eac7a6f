use Rattle.theory_fair.proofs.Stable.{steps_compute, meetings_compute, terminal_stable}
use Rattle.theory_fair.proofs.Standing.{some_fair}
use Rattle.theory_fair.proofs.Synchronous.{synchronous_compute}
use Rattle.theory_fair.proofs.law.fair_executions_stabilise.Goals as goal

pub returns : goal.returns
returns c =
    record { steps = steps_compute; meetings = meetings_compute; synchronous = synchronous_compute; rest = terminal_stable; some = some_fair }
