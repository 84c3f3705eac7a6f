use Rattle.std.proofs.Common.{◌≡◌, map, take, length}
use Rattle.agent_field.specs.Seats.{log_of}
use Rattle.pair_workers.specs.declared.work.Worker.{Worker}
use Rattle.pair_workers.proofs.seats.meetings_made.Given as goal

abbrev pub invariant-workers : goal.invariant-workers
invariant-workers l = record {
  items : l.made.items ≡ map (λ (w : Worker). length (log_of w.seat)) (take l.worker-index l.workers);
}
