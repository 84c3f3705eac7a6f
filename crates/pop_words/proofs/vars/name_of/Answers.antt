use Rattle.std.proofs.lemmas.Bool.{false_from_ne_true}
use Rattle.pop_io.specs.Names.{variable_name}
use Rattle.pop_words.proofs.NameLists.{name-IsUtf8}
use Rattle.pop_words.proofs.vars.name_of.Goals as goal

pub returns-in_default : goal.returns-in_default
returns-in_default c = false_from_ne_true (variable_name c.args.word.now) (λ form. c.in_default.ensures.cases.0 (name-IsUtf8 c.args.word.now form))
