use Rattle.std.proofs.Common.{◌≡◌, drop, length}
use Rattle.agent_field.specs.History.{placed_logs}
use Rattle.agent_field.proofs.close.arrange.Given as goal

abbrev pub invariant-loop-w : goal.invariant-loop-w
invariant-loop-w l = record {
  so_far : placed_logs (l.w, l.out.items) (drop l.w l.taken) ≡ placed_logs (0, l.initial.out.items) l.taken;
  count : length l.out.items ≡ l.count;
}
