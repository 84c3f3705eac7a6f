use Rattle.pop_net.specs.Lanes.{crowd_of}
use Rattle.terminal_test.specs.Restless.{AreSeenTo}
use Rattle.terminal_test.proofs.restless.seen_states.Given as goal

abbrev pub invariant-loop-agent : goal.invariant-loop-agent
invariant-loop-agent l = AreSeenTo l.net l.leaf (crowd_of l.net l.crowd) l.seen.items l.agent
