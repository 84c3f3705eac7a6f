-- LaneWidth: how many bits a lane of a word has.
use Rattle.std.specs.Prelude.{ℕ, Bool, true, false, List}
use Rattle.pop_net.specs.declared.limits.TheConstants.{LANE_BITS, WIDE_LANE_BITS}
use Rattle.pop_net.specs.declared.lanes.LaneWidth.{LaneWidth}
use Rattle.pop_net.specs.declared.lanes.LaneWidth.TheVariants.{Narrow, Wide}
use Rattle.pop_leaf.specs.LeafModel.{LeafModel}
use Rattle.pop_leaf.specs.NetModel.{is_wide}

abbrev pub bits_of : LaneWidth → ℕ
bits_of Narrow = LANE_BITS
bits_of Wide = WIDE_LANE_BITS

-- wide lanes for a wide net
abbrev pub width_for : Bool → LaneWidth
width_for true = Wide
width_for false = Narrow

abbrev pub width_of : List LeafModel → LaneWidth
width_of leaves = width_for (is_wide leaves)
