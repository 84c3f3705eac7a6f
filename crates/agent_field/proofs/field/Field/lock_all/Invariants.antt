use Rattle.agent_field.specs.Steps.{below, with_locks}
use Rattle.agent_field.specs.Tokens.{Becomes}
use Rattle.agent_field.proofs.field.Field.lock_all.Given as goal

abbrev pub invariant-loop-s : goal.invariant-loop-s
invariant-loop-s g l = Becomes l.initial.token l.token (with_locks (below l.s) l.initial.token.me.0)
