use Rattle.std.proofs.Common.{◌≡◌, ◌≤◌, sum}
use Rattle.kernel_ways.specs.Results.{HasCome}
use Rattle.kernel_ways.proofs.agents.go_by_agents.Given as goal

abbrev pub invariant-loop : goal.invariant-loop
invariant-loop l = record {
  few : l.made ≤ l.counter;
  size : sum l.counts ≡ sum l.fn.counts;
  met : HasCome l.table l.fn.crowd l.crowd;
}
