use Rattle.std.proofs.Common.{rules}
use Rattle.pop_words.proofs.Firsts.{list_any_map}
use Rattle.pop_words.proofs.options.fault_of_name.Goals as goal

pub returns-then-has_word : goal.returns-then-has_word
returns-then-has_word c = search (list_any_map, rules)
