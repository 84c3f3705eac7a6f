use Rattle.std.proofs.Common.{rules}
use Rattle.comp_threshold.proofs.values.place.Goals as goal

pub returns : goal.returns
returns c = search rules
