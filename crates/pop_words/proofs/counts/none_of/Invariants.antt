use Rattle.std.proofs.Common.{◌≡◌, map, take, None}
use Rattle.pop_words.proofs.counts.none_of.Given as goal

abbrev pub invariant-loop-name : goal.invariant-loop-name
invariant-loop-name l = l.found.items ≡ map (λ _. None) (take l._name-index l.names)
