use Rattle.std.proofs.Common.{rules}
use Rattle.agent_field.proofs.field.FieldSeat.reserve.Goals as goal

pub invariant_of-self-then-self-turns : goal.invariant_of-self-then-self-turns
invariant_of-self-then-self-turns c = search rules
