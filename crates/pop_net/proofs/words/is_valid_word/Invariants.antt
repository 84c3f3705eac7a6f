use Rattle.std.proofs.Common.{◌^◌, ◌≡◌, ℕ, ◌<◌, length}
use Rattle.std.specs.Prelude.{slice_get, Some}
use Rattle.pop_leaf.specs.LeafModel.{LeafModel}
use Rattle.pop_leaf.specs.NetModel.{state_of}
use Rattle.pop_net.specs.Lanes.{digits}
use Rattle.pop_net.specs.LaneWidth.{bits_of}
use Rattle.pop_net.proofs.words.is_valid_word.Given as goal

abbrev pub invariant-loop-i : goal.invariant-loop-i
invariant-loop-i l =
    (k : ℕ) (leaf : LeafModel) → k < l.i → slice_get l.leaves k ≡ Some leaf → state_of (digits (2 ^ bits_of l.lanes) (length l.leaves) l.word) k < length leaf.states
