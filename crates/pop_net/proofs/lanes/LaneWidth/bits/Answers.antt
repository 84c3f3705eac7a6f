use Rattle.std.proofs.Common.{rules}
use Rattle.pop_net.proofs.lanes.LaneWidth.bits.Goals as goal

pub returns-in-Wide : goal.returns-in-Wide
returns-in-Wide c = search rules
