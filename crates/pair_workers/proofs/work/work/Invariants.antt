use Rattle.std.proofs.Common.{◌≤◌, ◌+◌}
use Rattle.agent_field.specs.Seats.{IsSeatOf, KeepsRest, log_of, spare_of}
use Rattle.run_picks.specs.Turns.{HasPicked}
use Rattle.pair_workers.specs.Work.{agents_of_field, pairs_of}
use Rattle.pair_workers.proofs.work.work.Given as goal

abbrev pub invariant-turns : goal.invariant-turns
invariant-turns g l = record {
  ours : IsSeatOf l.field l.worker.seat;
  kept : KeepsRest l.initial.worker.seat l.worker.seat;
  picked : HasPicked (agents_of_field l.field) l.turn l.initial.worker.picker l.worker.picker (pairs_of (log_of l.worker.seat));
  room : l.turns ≤ l.turn + spare_of l.worker.seat;
}
