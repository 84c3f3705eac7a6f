use Rattle.std.proofs.Common.{ℕ, ◌<◌, get_or, None}
use Rattle.std.specs.Prelude.{IsSome}
use Rattle.agent_field.proofs.field.FieldSeat.whole.Given as goal

abbrev pub invariant-loop-w : goal.invariant-loop-w
invariant-loop-w l = (k : ℕ) → 0 < k → k < l.w → IsSome (get_or l.self.taken.items k None)
