use Rattle.std.proofs.Common.{◌^◌, map, length}
use Rattle.pop_leaf.specs.Reaction.{reactions}
use Rattle.pop_net.specs.Lanes.{digits}
use Rattle.pop_net.specs.LaneWidth.{bits_of}
use Rattle.pop_net.proofs.Packing.{Packed}
use Rattle.pop_net.proofs.words.react_words.Given as goal

abbrev pub invariant-loop-i : goal.invariant-loop-i
invariant-loop-i l =
    let both = reactions l.leaves (digits (2 ^ bits_of l.lanes) (length l.leaves) l.a) (digits (2 ^ bits_of l.lanes) (length l.leaves) l.b) in
    record { first : Packed (2 ^ bits_of l.lanes) l.i (map (λ z. z.0) both) l.first; second : Packed (2 ^ bits_of l.lanes) l.i (map (λ z. z.1) both) l.second }
