use Rattle.std.proofs.Common.{◌≡◌, ◌++◌, replicate}
use Rattle.pop_crowd.proofs.starts.push_words.Given as goal

abbrev pub invariant-loop-turn : goal.invariant-loop-turn
invariant-loop-turn l = l.words.items ≡ l.fn.words.items ++ replicate l._turn l.word
