use Rattle.run_text.proofs.Texts.{round_added}
use Rattle.run_text.proofs.write.push_rounds.Goals as goal

pub loop-i-preserved : goal.loop-i-preserved
loop-i-preserved c =
    round_added c.args.text.now.items c.args.rounds.now c.loop-i.i _ c.loop-i.text.items _ c.loop-i-test.true c.index-rounds-i.is c.loop-i.invariant (rw c.as_slice.ensures at c.in_ok-push_round.ensures)
