use Rattle.std.proofs.Common.{rules}
use Rattle.comp_counting.proofs.full.siphon.Goals as goal

pub returns : goal.returns
returns c = search rules
