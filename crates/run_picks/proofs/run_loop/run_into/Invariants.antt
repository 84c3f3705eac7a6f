use Rattle.std.proofs.Common.{◌≡◌, ◌+◌, ◌≤◌, length}
use Rattle.pop_net.specs.Lanes.{crowd_of, AreValid}
use Rattle.run_picks.proofs.Taken.{Making}
use Rattle.run_picks.proofs.run_loop.run_into.Given as goal

abbrev pub invariant-rounds : goal.invariant-rounds
invariant-rounds g l = record {
  making : Making g.S.RoundSink.takes l.run.rest.now l.run.net.now (crowd_of l.run.net.now l.fn.crowd) l.run.spec.now l.fn.sink l.sink (crowd_of l.run.net.now l.crowd) l.picker l.left l.number;
  valid : AreValid l.run.net.now l.crowd;
  agents : length l.crowd ≡ length l.fn.crowd;
  few : l.left ≤ 1000000;
  count : l.number + l.left ≤ 1000001;
}

abbrev pub decreases-rounds : goal.decreases-rounds
decreases-rounds g l = l.left
