use Rattle.std.proofs.Common.{rules}
use Rattle.base_json.specs.Shapes.{object_at}
use Rattle.base_json.proofs.shape.object_of.Goals as goal

pub returns : goal.returns
unfolding object_at
returns c = search rules
