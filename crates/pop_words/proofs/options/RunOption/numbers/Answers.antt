use Rattle.std.proofs.Common.{rules}
use Rattle.pop_words.proofs.options.RunOption.numbers.Goals as goal

pub returns-in-Workers : goal.returns-in-Workers
returns-in-Workers c = search rules
