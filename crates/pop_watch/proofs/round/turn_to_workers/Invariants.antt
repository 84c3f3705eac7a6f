use Rattle.std.proofs.Common.{◌≡◌, ◌++◌, map, take, drop}
use Rattle.pop_watch.specs.Playing.{of_worker}
use Rattle.pop_watch.proofs.round.turn_to_workers.Given as goal

abbrev pub invariant-meetings : goal.invariant-meetings
invariant-meetings l = map of_worker (take l.meeting-index l.initial.meetings) ++ drop l.meeting-index l.initial.meetings ≡ l.meetings
