use Rattle.pop_net.specs.Lanes.{tuple_of}
use Rattle.terminal_test.specs.Restless.{IsCalmTo}
use Rattle.terminal_test.proofs.restless.is_restless.Given as goal

abbrev pub invariant-loop-leaf : goal.invariant-loop-leaf
invariant-loop-leaf l = IsCalmTo l.restless (tuple_of l.net l.word) l.leaf
