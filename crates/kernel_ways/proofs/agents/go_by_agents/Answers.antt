use Rattle.std.proofs.Common.{arith}
use Rattle.kernel_ways.proofs.Steps.{one_more, step_of}
use Rattle.kernel_ways.proofs.agents.go_by_agents.Goals as goal
use Rattle.kernel_ways.proofs.agents.go_by_agents.Goals.{else-loop-test, then-loop-test+in-Some+in-Some-meet+then-is_stopped, then-loop-test+in-Some+then-goal-meeting}

-- src/agents.rt:60:5
pub loop-preserved : goal.loop-preserved
loop-preserved c = record {
  few = omega arith;
  size = omega arith;
  met = one_more c.args.table.now c.args.crowd.now c.loop.crowd c.meet.new.crowd c.loop.invariant.met
      (step_of c.args.table.now c.loop.crowd c.meet.new.crowd c.in-Some.pair.0 c.in-Some.pair.1 c.meet.result
      c.in-Some.ensures.different (omega arith) (omega arith) c.meet.ensures.meeting);
}

-- src/agents.rt:40:1
pub returns-clause-met : goal.returns-clause-met
returns-clause-met c =
    elim c.loop-test.branch [
      | else-loop-test w ↦ rw w.crowd-is c.loop.invariant.met
      | then-loop-test+in-Some+in-Some-meet+then-is_stopped w ↦
          rw w.crowd-is
          (one_more c.args.table.now c.args.crowd.now c.loop.crowd w.meet.new.crowd c.loop.invariant.met
          (step_of c.args.table.now c.loop.crowd w.meet.new.crowd w.in-Some.pair.0 w.in-Some.pair.1 w.meet.result
          w.in-Some.ensures.different (omega (arith, w.in-Some.ensures.first, w.in-Some.ensures.second))
          (omega (arith, w.in-Some.ensures.first, w.in-Some.ensures.second)) w.meet.ensures.meeting))
      | then-loop-test+in-Some+then-goal-meeting w ↦
          rw w.crowd-is
          (one_more c.args.table.now c.args.crowd.now c.loop.crowd w.meet.new.crowd c.loop.invariant.met
          (step_of c.args.table.now c.loop.crowd w.meet.new.crowd w.in-Some.pair.0 w.in-Some.pair.1 w.meet.result
          w.in-Some.ensures.different (omega (arith, w.in-Some.ensures.first, w.in-Some.ensures.second))
          (omega (arith, w.in-Some.ensures.first, w.in-Some.ensures.second)) w.meet.ensures.meeting))
    ]
