use Rattle.std.proofs.Common.{arith}
use Rattle.base_json.specs.Shapes.{one_after}
use Rattle.std.proofs.lemmas.Grind.{common_steps}
use Rattle.base_json.proofs.tagged.only_item.Goals as goal

pub returns : goal.returns
unfolding one_after
returns c = grind (arith, common_steps)
