use Rattle.std.proofs.Common.{◌≤◌, ◌+◌, ◌≡◌}
use Rattle.agent_field.specs.Seats.{IsSeatOf, KeepsLogs, seat_number, spare_looks_of}
use Rattle.pop_watch.proofs.observe.look_on.Given as goal

abbrev pub invariant-looks : goal.invariant-looks
invariant-looks g l = record {
  ours : IsSeatOf l.field l.seat;
  number : seat_number l.seat ≡ 0;
  room : 16 ≤ l.look + spare_looks_of l.seat;
  rest : KeepsLogs l.initial.seat l.seat;
}
