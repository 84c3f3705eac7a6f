use Rattle.std.proofs.Common.{arith}
use Rattle.std.proofs.lemmas.Grind.{common_steps}
use Rattle.pop_words.proofs.words.read_words.Goals as goal

pub returns-in-empty-clause-meaning : goal.returns-in-empty-clause-meaning
returns-in-empty-clause-meaning c = grind (arith, common_steps)
