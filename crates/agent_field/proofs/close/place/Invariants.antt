use Rattle.std.proofs.Common.{◌≡◌, drop}
use Rattle.agent_field.specs.History.{placed}
use Rattle.agent_field.proofs.close.place.Given as goal

abbrev pub invariant-loop-e : goal.invariant-loop-e
invariant-loop-e l = placed l.worker l.out (drop l.e-index l.log) ≡ placed l.worker l.initial.out l.log
