use Rattle.std.proofs.Common.{rules}
use Rattle.comp_threshold.proofs.building.output.Goals as goal

pub returns-then-q-n : goal.returns-then-q-n
returns-then-q-n c = search rules
