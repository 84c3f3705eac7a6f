use Rattle.std.proofs.Common.{arith}
use Rattle.base_json.specs.Shapes.{word_at}
use Rattle.std.proofs.lemmas.Grind.{common_steps}
use Rattle.base_json.proofs.tagged.word_of.Goals as goal

pub returns-in-empty : goal.returns-in-empty
unfolding word_at
returns-in-empty c = grind (arith, common_steps)
