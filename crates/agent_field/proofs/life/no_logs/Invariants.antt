use Rattle.std.proofs.Common.{◌≡◌, replicate, None}
use Rattle.agent_field.proofs.life.no_logs.Given as goal

abbrev pub invariant-loop : goal.invariant-loop
invariant-loop l = l.logs.items ≡ replicate l.counter None
