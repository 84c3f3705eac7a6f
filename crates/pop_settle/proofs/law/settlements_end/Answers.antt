use Rattle.pop_settle.proofs.Endings.{are_steps, are_terminal}
use Rattle.pop_settle.proofs.Lasting.{are_short}
use Rattle.pop_settle.proofs.Once.{are_one}
use Rattle.pop_settle.proofs.law.settlements_end.Goals as goal

pub returns : goal.returns
returns c = record { steps = are_steps; one = are_one; short = are_short; terminal = are_terminal }
