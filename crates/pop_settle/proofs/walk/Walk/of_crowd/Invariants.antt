use Rattle.std.proofs.Common.{◌≡◌, take}
use Rattle.pop_settle.proofs.walk.Walk.of_crowd.Given as goal

abbrev pub invariant-loop-agent : goal.invariant-loop-agent
invariant-loop-agent l = l.words.items ≡ take l.agent l.crowd
