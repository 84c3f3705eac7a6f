use Rattle.std.proofs.Common.{◌≡◌, ◌≤◌, length}
use Rattle.std.specs.Prelude.{vec_capacity}
use Rattle.pop_net.specs.Lanes.{crowd_of, AreValid}
use Rattle.run_picks.specs.Picks.{words_from}
use Rattle.run_picks.specs.Played.{IsPlayed}
use Rattle.run_picks.proofs.alone.play_round.Given as goal

abbrev pub invariant-turns : goal.invariant-turns
invariant-turns g l = record {
  played : IsPlayed l.run.net.now (crowd_of l.run.net.now l.fn.crowd) (words_from l.fn.picker) l.log.items (crowd_of l.run.net.now l.crowd) (words_from l.picker);
  turns : length l.log.items ≡ l.turn;
  valid : AreValid l.run.net.now l.crowd;
  agents : length l.crowd ≡ length l.fn.crowd;
  room : l.turns ≤ vec_capacity l.log;
}
