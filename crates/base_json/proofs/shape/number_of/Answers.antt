use Rattle.std.proofs.Common.{rules}
use Rattle.base_json.specs.Shapes.{number_at}
use Rattle.base_json.proofs.shape.number_of.Goals as goal

pub returns-then-number-from-clause-number : goal.returns-then-number-from-clause-number
unfolding number_at
returns-then-number-from-clause-number c = search rules
