use Rattle.std.proofs.Common.{rules}
use Rattle.comp_counting.proofs.weights.weight_of.Goals as goal

pub returns-then-q-power : goal.returns-then-q-power
returns-then-q-power c = search rules

pub returns-else-q-power : goal.returns-else-q-power
returns-else-q-power c = search rules
