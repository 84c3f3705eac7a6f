use Rattle.std.proofs.Common.{rules}
use Rattle.comp_threshold.proofs.weights.first_weight.Goals as goal

pub returns-then-q-span : goal.returns-then-q-span
returns-then-q-span c = search rules
