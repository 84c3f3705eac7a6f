use Rattle.std.proofs.Common.{arith}
use Rattle.terminal_test.proofs.LoudPairs.{loud_more}
use Rattle.terminal_test.proofs.loud.loud_pairs.Goals as goal

pub loop-t-preserved : goal.loop-t-preserved
loop-t-preserved c = loud_more c.args.leaf.now.moves c.move_at.result c.loop-t.t c.loop-t.pairs.items _ (omega (arith, c.loop-t-test.true, c.move_count-t-end.ensures)) c.move_at.ensures c.loop-t.invariant c.in_ok-push_loud.ensures
