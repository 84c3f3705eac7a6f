use Rattle.std.proofs.Common.{◌≡◌, ◌≤◌, length}
use Rattle.pop_net.specs.Lanes.{crowd_of, AreValid}
use Rattle.agent_field.specs.Layouts.{Serves}
use Rattle.run_picks.proofs.ManyRounds.{AreOnTheRun}
use Rattle.pair_workers.proofs.all.run_all.Given as goal

abbrev pub invariant-rounds : goal.invariant-rounds
invariant-rounds g l = record {
  run : AreOnTheRun l.net l.net (crowd_of l.net l.fn.crowd) l.spec l.rounds.items (crowd_of l.net l.crowd) l.pickers.items l.left;
  valid : AreValid l.net l.crowd;
  agents : length l.crowd ≡ length l.fn.crowd;
  pickers : length l.pickers.items ≡ l.spec.workers;
  few : l.left ≤ 1000000;
  serves : Serves l.layout l.crowd l.spec.shards;
}

abbrev pub decreases-rounds : goal.decreases-rounds
decreases-rounds g l = l.left
