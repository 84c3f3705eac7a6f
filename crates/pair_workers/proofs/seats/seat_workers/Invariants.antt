use Rattle.std.proofs.Common.{◌≡◌, ℕ, ◌+◌, ◌<◌, get_or, length, List}
use Rattle.agent_field.specs.Seats.{IsSeatOf, KeepsOwn, taken_of, next_of, left_of}
use Rattle.pair_workers.specs.declared.work.Worker.{Worker}
use Rattle.pair_workers.specs.Work.{IsReady}
use Rattle.pair_workers.proofs.seats.seat_workers.Given as goal

abbrev pub invariant-pickers : goal.invariant-pickers
invariant-pickers l = record {
  ours : IsSeatOf l.field l.first;
  own : KeepsOwn l.initial.first l.first × (taken_of l.first ≡ taken_of l.initial.first);
  next : next_of l.first ≡ length l.yielded + 1;
  left : left_of l.first + length l.yielded ≡ length l.fn.pickers.items;
  count : length l.workers.items ≡ length l.yielded;
  ready : (i : ℕ) (d : Worker) (e : List ℕ) → i < length l.workers.items → IsReady l.field l.turns (i + 1) (get_or l.fn.pickers.items i e) (get_or l.workers.items i d);
}
