use Rattle.std.proofs.Common.{◌≡◌, ℕ, ◌<◌, length, get_or, take}
use Rattle.run_picks.specs.Run.{meetings_of}
use Rattle.pop_journal.proofs.lacking.made_by_workers.Given as goal

abbrev pub invariant-loop-meeting : goal.invariant-loop-meeting
invariant-loop-meeting l = record {
  workers : length l.made.items ≡ l.workers;
  counts : (w d : ℕ) → w < l.workers → get_or l.made.items w d ≡ length (meetings_of w (take l.meeting-index l.meetings));
}
