use Rattle.std.proofs.Common.{rules}
use Rattle.comp_threshold.proofs.listing.leader_move.Goals as goal

pub returns : goal.returns
returns c = search rules
