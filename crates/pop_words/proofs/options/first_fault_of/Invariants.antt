use Rattle.std.proofs.Common.{◌≡◌, ◌<◌, ℕ, None, map}
use Rattle.pop_words.specs.Options.{word_fault}
use Rattle.pop_words.proofs.options.first_fault_of.Given as goal

abbrev pub invariant-loop-at : goal.invariant-loop-at
invariant-loop-at l = (k : ℕ) → k < l.at → word_fault l.kind (map (λ w. w.now) l.words) k ≡ None
