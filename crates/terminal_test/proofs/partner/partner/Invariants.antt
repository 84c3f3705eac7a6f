use Rattle.pop_net.specs.Lanes.{crowd_of}
use Rattle.terminal_test.proofs.Searches.{NoneBefore}
use Rattle.terminal_test.proofs.partner.partner.Given as goal

abbrev pub invariant-loop-b : goal.invariant-loop-b
invariant-loop-b l = NoneBefore l.net (crowd_of l.net l.crowd) l.a l.b
