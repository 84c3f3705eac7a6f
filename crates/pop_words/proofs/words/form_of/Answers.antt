use Rattle.std.proofs.Common.{rules}
use Rattle.pop_words.proofs.words.form_of.Goals as goal

pub returns-in-watch-clause-form : goal.returns-in-watch-clause-form
returns-in-watch-clause-form c = search rules
