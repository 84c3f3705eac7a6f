use Rattle.pop_net.specs.Lanes.{crowd_of}
use Rattle.terminal_test.specs.TableNet.{table_net}
use Rattle.terminal_test.proofs.Searches.{NoneBelow}
use Rattle.terminal_test.proofs.pair_table.PairTable.enabled_pair.Given as goal

abbrev pub invariant-loop-a : goal.invariant-loop-a
invariant-loop-a l = NoneBelow (table_net l.self) (crowd_of (table_net l.self) l.crowd) l.a
