use Rattle.std.proofs.Common.{◌≡◌, ℕ, ◌+◌, ◌*◌, ◌<◌, ◌≤◌, length}
use Rattle.std.specs.Prelude.{vec_capacity}
use Rattle.pop_net.specs.Lanes.{AreValid}
use Rattle.run_picks.specs.Run.{made_by}
use Rattle.pop_watch.specs.Playing.{KeepsPlaying}
use Rattle.pop_watch.proofs.missing.make_missing.Given as goal

abbrev pub invariant-workers : goal.invariant-workers
invariant-workers l = record {
  goes_on : KeepsPlaying l.net l.fn.played l.played;
  whole : (w : ℕ) → w < l.worker → made_by w l.played.meetings.items ≡ l.turns;
  rest : (w : ℕ) → l.worker ≤ w → made_by w l.played.meetings.items ≡ made_by w l.fn.played.meetings.items;
  valid : AreValid l.net l.played.crowd;
  count : length l.played.meetings.items ≤ length l.fn.played.meetings.items + l.worker * l.turns;
  room : length l.fn.played.meetings.items + length l.made * l.turns ≤ vec_capacity l.played.meetings;
}
