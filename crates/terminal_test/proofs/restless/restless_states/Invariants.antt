use Rattle.pop_net.specs.Lanes.{crowd_of}
use Rattle.terminal_test.specs.Restless.{AreRestlessTo}
use Rattle.terminal_test.proofs.restless.restless_states.Given as goal

abbrev pub invariant-loop-leaf : goal.invariant-loop-leaf
invariant-loop-leaf l = AreRestlessTo l.net (crowd_of l.net l.crowd) l.restless.items l.leaf
