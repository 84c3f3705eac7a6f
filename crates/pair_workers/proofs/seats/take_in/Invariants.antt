use Rattle.std.proofs.Common.{◌≡◌, ℕ, ◌+◌, ◌<◌, ◌++◌, get_or, length, map, Some, None}
use Rattle.agent_field.specs.Seats.{IsSeatOf, seat_number, next_of, log_of, taken_of}
use Rattle.pair_workers.specs.declared.work.Worker.{Worker}
use Rattle.pair_workers.proofs.seats.take_in.Given as goal

abbrev pub invariant-workers : goal.invariant-workers
invariant-workers l = record {
  ours : IsSeatOf l.field l.first;
  number : seat_number l.first ≡ 0;
  next : next_of l.first ≡ length l.fn.workers.items + 1;
  log : log_of l.first ≡ log_of l.initial.first;
  pickers : l.pickers.items ≡ l.fn.pickers.items ++ map (λ (w : Worker). w.picker) l.yielded;
  taken : (i : ℕ) (d : Worker) → i < length l.yielded → get_or (taken_of l.first) (i + 1) None ≡ Some (log_of (get_or l.fn.workers.items i d).seat);
}
