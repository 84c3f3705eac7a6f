use Rattle.std.proofs.Common.{◌≡◌, ◌+◌, ◌≤◌, length}
use Rattle.pop_net.specs.Lanes.{crowd_of, AreValid}
use Rattle.agent_field.specs.Layouts.{Serves}
use Rattle.pop_watch.proofs.RunsOfKind.{Made}
use Rattle.pop_watch.proofs.threads.run_on_threads.Given as goal

abbrev pub invariant-rounds : goal.invariant-rounds
invariant-rounds g l = record {
  made : Made l.kind g.S.RoundSink.takes l.fn.run.rest.now l.fn.run.net.now (crowd_of l.fn.run.net.now l.fn.crowd) l.fn.run.spec.now l.fn.sink l.sink (crowd_of l.fn.run.net.now l.crowd) l.pickers.items l.left l.number;
  valid : AreValid l.fn.run.net.now l.crowd;
  agents : length l.crowd ≡ length l.fn.crowd;
  pickers : length l.pickers.items ≡ l.fn.run.spec.now.workers;
  few : l.left ≤ 1000000;
  count : l.number + l.left ≤ 1000001;
  serves : Serves l.layout l.crowd l.fn.run.spec.now.shards;
}

abbrev pub decreases-rounds : goal.decreases-rounds
decreases-rounds g l = l.left
