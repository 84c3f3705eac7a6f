use Rattle.std.proofs.Common.{◌≡◌, take}
use Rattle.pop_net.specs.Lanes.{tuple_of}
use Rattle.pop_crowd.proofs.lines.states.Given as goal

abbrev pub invariant-loop-leaf : goal.invariant-loop-leaf
invariant-loop-leaf l = l.tuple.items ≡ take l.leaf (tuple_of l.net l.word)
