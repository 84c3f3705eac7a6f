use Rattle.std.proofs.Common.{◌^◌, arith}
use Rattle.std.proofs.lemmas.Bool.{false≢true}
use Rattle.std.proofs.lemmas.Option.{slice_get_within}
use Rattle.pop_net.specs.LaneWidth.{bits_of}
use Rattle.pop_net.proofs.Lanewise.{states_more, not_valid}
use Rattle.pop_net.proofs.words.is_valid_word.Goals as goal

pub returns-then-state-state_count : goal.returns-then-state-state_count
returns-then-state-state_count c = (
  λ e. absurd (false≢true e),
  λ h. absurd (not_valid (2 ^ bits_of c.args.lanes) c.args.leaves.now c.loop-i.i c.index-leaves-i.result c.loop-i-test.true c.index-leaves-i.is c.args.word _ c.state.ensures (omega arith) h.0),
)

pub loop-i-preserved : goal.loop-i-preserved
loop-i-preserved c =
    states_more (2 ^ bits_of c.args.lanes) c.args.leaves.now c.loop-i.i c.index-leaves-i.result c.loop-i-test.true c.index-leaves-i.is c.args.word _ c.state.ensures (omega arith) c.loop-i.invariant

pub returns : goal.returns
returns c = (
  λ e. ((λ i leaf at. let l = slice_get_within _ i leaf at in c.loop-i.invariant i leaf (omega arith) at), c.ends_before.ensures.0 e),
  λ h. c.ends_before.ensures.1 h.1,
)
