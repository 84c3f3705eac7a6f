use Rattle.std.proofs.Common.{◌^◌, arith, ◌∙◌}
use Rattle.std.proofs.lemmas.List.{length-set}
use Rattle.pop_net.specs.LaneWidth.{bits_of}
use Rattle.pop_net.proofs.Lanewise.{lane_in, outputs_more, outputs_all}
use Rattle.pop_net.proofs.words.word_outputs.Goals as goal

pub output-requires : goal.output-requires
output-requires c =
    lane_in (2 ^ bits_of c.args.lanes) c.args.leaves.now c.loop-i.i c.index-leaves-i.result c.loop-i-test.true c.index-leaves-i.is c.args.word _ c.requires.valid c.state.ensures

pub loop-i-preserved : goal.loop-i-preserved
loop-i-preserved c =
    record {
      outputs = outputs_more (2 ^ bits_of c.args.lanes) c.args.leaves.now c.loop-i.i c.index-leaves-i.result c.loop-i-test.true c.index-leaves-i.is c.args.word _ _ c.loop-i.outputs c.state.ensures c.output.ensures (omega arith) c.loop-i.invariant.outputs;
      eight = length-set c.loop-i.outputs c.loop-i.i c.output.result ∙ c.loop-i.invariant.eight;
    }

pub returns : goal.returns
returns c = outputs_all (2 ^ bits_of c.args.lanes) c.args.leaves.now c.loop-i.i c.args.word c.loop-i.outputs (omega arith) (omega arith) c.loop-i.invariant.outputs
