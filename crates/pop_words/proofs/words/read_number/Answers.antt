use Rattle.std.proofs.Common.{rules, arith}
use Rattle.std.proofs.lemmas.Grind.{common_steps}
use Rattle.pop_words.proofs.words.read_number.Goals as goal

pub returns-clause-meaning : goal.returns-clause-meaning
returns-clause-meaning c = grind (arith, common_steps)

pub returns-clause-limits : goal.returns-clause-limits
returns-clause-limits c = search rules
