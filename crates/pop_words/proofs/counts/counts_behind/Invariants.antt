use Rattle.std.proofs.Common.{◌≡◌, ◌+◌, map, None, length}
use Rattle.std.specs.Option.{option_copied}
use Rattle.pop_words.specs.Counts.{with_words}
use Rattle.pop_words.specs.WordsBehind.{words_behind, bytes_left, without_count}
use Rattle.pop_words.proofs.counts.counts_behind.Given as goal

abbrev pub invariant-words : goal.invariant-words
invariant-words l =
    (with_words l.names l.found.items l.at (words_behind (option_copied l.rest)) ≡ with_words l.names (map (λ _. None) l.names) 1 (words_behind (option_copied l.fn.words)))
    × (length l.found.items ≡ length l.names)
    × (l.at + without_count l.found.items ≡ length l.names + 1)

abbrev pub decreases-words : goal.decreases-words
decreases-words l = bytes_left (option_copied l.rest)
