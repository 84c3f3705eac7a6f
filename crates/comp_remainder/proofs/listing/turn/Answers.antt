use Rattle.std.proofs.Common.{rules}
use Rattle.comp_remainder.proofs.listing.turn.Goals as goal

pub returns : goal.returns
returns c = search rules
