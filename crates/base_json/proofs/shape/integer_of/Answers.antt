use Rattle.std.proofs.Common.{rules}
use Rattle.base_json.specs.Shapes.{integer_at}
use Rattle.base_json.proofs.shape.integer_of.Goals as goal

pub returns-clause-number : goal.returns-clause-number
unfolding integer_at
returns-clause-number c = search rules

pub returns-clause-size : goal.returns-clause-size
unfolding integer_at
returns-clause-size c = search rules
