use Rattle.std.proofs.Common.{◌^◌, ◌≡◌, length, take}
use Rattle.pop_leaf.specs.NetModel.{leaf_outputs}
use Rattle.pop_net.specs.Lanes.{digits}
use Rattle.pop_net.specs.LaneWidth.{bits_of}
use Rattle.pop_leaf.specs.declared.limits.TheConstants.{LEAF_LIMIT}
use Rattle.pop_net.proofs.words.word_outputs.Given as goal

abbrev pub invariant-loop-i : goal.invariant-loop-i
invariant-loop-i l =
    record {
      outputs : take l.i l.outputs ≡ take l.i (leaf_outputs l.leaves (digits (2 ^ bits_of l.lanes) (length l.leaves) l.word));
      eight : length l.outputs ≡ LEAF_LIMIT;
    }
