use Rattle.std.specs.Option.{option_copied}
use Rattle.pop_words.specs.WordsBehind.{words_behind, bytes_left}
use Rattle.pop_words.proofs.NameLists.{SoFar}
use Rattle.pop_words.proofs.vars.names_behind.Given as goal

abbrev pub invariant-words : goal.invariant-words
invariant-words l = SoFar (words_behind (option_copied l.fn.words)) l.names.items (words_behind (option_copied l.rest))

abbrev pub decreases-words : goal.decreases-words
decreases-words l = bytes_left (option_copied l.rest)
