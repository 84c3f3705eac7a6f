use Rattle.std.proofs.Common.{rules}
use Rattle.comp_remainder.proofs.whole.congruent.Goals as goal

pub returns : goal.returns
returns c = search rules
