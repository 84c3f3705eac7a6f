use Rattle.std.proofs.Common.{arith}
use Rattle.base_json.specs.Shapes.{pair_at}
use Rattle.std.proofs.lemmas.Grind.{common_steps}
use Rattle.base_json.proofs.tagged.pair_of.Goals as goal

pub returns : goal.returns
unfolding pair_at
returns c = grind (arith, common_steps)
