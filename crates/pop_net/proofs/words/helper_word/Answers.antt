use Rattle.std.proofs.Common.{◌^◌}
use Rattle.pop_net.specs.LaneWidth.{bits_of}
use Rattle.pop_net.proofs.Lanewise.{helper_more}
use Rattle.pop_net.proofs.words.helper_word.Goals as goal

pub loop-i-preserved : goal.loop-i-preserved
loop-i-preserved c =
    helper_more (2 ^ bits_of c.args.lanes) c.args.leaves.now c.loop-i.i c.index-leaves-i.result c.loop-i-test.true c.index-leaves-i.is c.args.helper _ _ _ c.requires.fits c.helper.ensures.start c.helper.ensures.bound c.with_state-word.ensures.sum c.with_state-word.ensures.used c.loop-i.invariant
