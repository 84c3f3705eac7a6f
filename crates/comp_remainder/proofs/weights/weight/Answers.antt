use Rattle.std.proofs.Common.{rules}
use Rattle.comp_remainder.proofs.weights.weight.Goals as goal

pub returns-then-passes : goal.returns-then-passes
returns-then-passes c = search rules
