use Rattle.std.proofs.Common.{◌^◌, map}
use Rattle.std.specs.Prelude.{slice_index}
use Rattle.pop_leaf.specs.LeafModel.{LeafModel}
use Rattle.pop_net.specs.LaneWidth.{bits_of}
use Rattle.pop_net.proofs.Packing.{Packed}
use Rattle.pop_net.proofs.words.helper_word.Given as goal

abbrev pub invariant-loop-i : goal.invariant-loop-i
invariant-loop-i l = Packed (2 ^ bits_of l.lanes) l.i (map (λ (leaf : LeafModel). slice_index leaf.helpers l.helper) l.leaves) l.word
