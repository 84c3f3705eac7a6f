use Rattle.std.proofs.Common.{◌^◌, length, ◌∙◌, arith}
use Rattle.std.proofs.lemmas.List.{length-map}
use Rattle.pop_net.specs.Lanes.{digits}
use Rattle.pop_leaf.specs.Reaction.{reactions}
use Rattle.pop_net.specs.LaneWidth.{bits_of}
use Rattle.pop_net.proofs.Digits.{length-digits}
use Rattle.pop_leaf.proofs.Reactions.{length-reactions}
use Rattle.pop_net.proofs.Packing.{packed_all}
use Rattle.pop_net.proofs.Lanewise.{lane_in, reaction_more}
use Rattle.pop_net.proofs.words.react_words.Goals as goal

pub react-x-requires-in-loop-i-clause-x_in : goal.react-x-requires-in-loop-i-clause-x_in
react-x-requires-in-loop-i-clause-x_in c =
    lane_in (2 ^ bits_of c.args.lanes) c.args.leaves.now c.loop-i.i c.index-leaves-i.result c.loop-i-test.true c.index-leaves-i.is c.args.a _ c.requires.a_valid c.state-in-loop-i.ensures

pub react-x-requires-in-loop-i-clause-y_in : goal.react-x-requires-in-loop-i-clause-y_in
react-x-requires-in-loop-i-clause-y_in c =
    lane_in (2 ^ bits_of c.args.lanes) c.args.leaves.now c.loop-i.i c.index-leaves-i.result c.loop-i-test.true c.index-leaves-i.is c.args.b _ c.requires.b_valid c.state-in-loop-i-2.ensures

pub loop-i-preserved : goal.loop-i-preserved
loop-i-preserved c =
    record {
      first = reaction_more (2 ^ bits_of c.args.lanes) c.args.leaves.now c.loop-i.i c.index-leaves-i.result c.loop-i-test.true c.index-leaves-i.is (λ z. z.0) c.args.a c.args.b _ _ _ _ c.react-x-in-loop-i.result c.requires.fits c.state-in-loop-i.ensures c.state-in-loop-i-2.ensures c.react-x-in-loop-i.ensures.reaction c.react-x-in-loop-i.ensures.first_in c.with_state-first.ensures.sum c.with_state-first.ensures.used c.loop-i.invariant.first;
      second = reaction_more (2 ^ bits_of c.args.lanes) c.args.leaves.now c.loop-i.i c.index-leaves-i.result c.loop-i-test.true c.index-leaves-i.is (λ z. z.1) c.args.a c.args.b _ _ _ _ c.react-x-in-loop-i.result c.requires.fits c.state-in-loop-i.ensures c.state-in-loop-i-2.ensures c.react-x-in-loop-i.ensures.reaction c.react-x-in-loop-i.ensures.second_in c.with_state-second.ensures.sum c.with_state-second.ensures.used c.loop-i.invariant.second;
    }

pub returns-clause-first : goal.returns-clause-first
returns-clause-first c =
    let n = length c.args.leaves.now in
    packed_all (2 ^ bits_of c.args.lanes) n c.loop-i.i _ _ (length-map (reactions c.args.leaves.now (digits (2 ^ bits_of c.args.lanes) n c.args.a) (digits (2 ^ bits_of c.args.lanes) n c.args.b)) (λ z. z.0) ∙ length-reactions c.args.leaves.now _ _ (length-digits (2 ^ bits_of c.args.lanes) n c.args.a) (length-digits (2 ^ bits_of c.args.lanes) n c.args.b)) (omega arith) (omega arith) c.loop-i.invariant.first

pub returns-clause-second : goal.returns-clause-second
returns-clause-second c =
    let n = length c.args.leaves.now in
    packed_all (2 ^ bits_of c.args.lanes) n c.loop-i.i _ _ (length-map (reactions c.args.leaves.now (digits (2 ^ bits_of c.args.lanes) n c.args.a) (digits (2 ^ bits_of c.args.lanes) n c.args.b)) (λ z. z.1) ∙ length-reactions c.args.leaves.now _ _ (length-digits (2 ^ bits_of c.args.lanes) n c.args.a) (length-digits (2 ^ bits_of c.args.lanes) n c.args.b)) (omega arith) (omega arith) c.loop-i.invariant.second

pub react-x-requires-clause-x_in : goal.react-x-requires-clause-x_in
react-x-requires-clause-x_in c =
    lane_in (2 ^ bits_of c.args.lanes) c.args.leaves.now 0 c.index-leaves-0.result (omega (arith, c.if-leaves-eq1.true)) c.index-leaves-0.is c.args.a _ c.requires.a_valid c.state.ensures

pub react-x-requires-clause-y_in : goal.react-x-requires-clause-y_in
react-x-requires-clause-y_in c =
    lane_in (2 ^ bits_of c.args.lanes) c.args.leaves.now 0 c.index-leaves-0.result (omega (arith, c.if-leaves-eq1.true)) c.index-leaves-0.is c.args.b _ c.requires.b_valid c.state-then-leaves-eq1.ensures
