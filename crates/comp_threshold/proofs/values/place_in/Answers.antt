use Rattle.std.proofs.Common.{rules}
use Rattle.comp_threshold.proofs.values.place_in.Goals as goal

pub returns-else-q-n-2 : goal.returns-else-q-n-2
returns-else-q-n-2 c = search rules
