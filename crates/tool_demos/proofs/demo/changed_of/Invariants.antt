use Rattle.std.proofs.Common.{◌≡◌, ◌+◌, drop}
use Rattle.tool_courses.specs.DemoOutput.{changed}
use Rattle.tool_demos.proofs.demo.changed_of.Given as goal

abbrev pub invariant-loop-meetings : goal.invariant-loop-meetings
invariant-loop-meetings l = l.total + changed (drop l.meetings-index l.rounds) ≡ changed l.rounds
