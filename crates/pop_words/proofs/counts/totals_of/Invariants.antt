use Rattle.std.proofs.Common.{◌≡◌, map, take, unwrap_or}
use Rattle.pop_words.proofs.counts.totals_of.Given as goal

abbrev pub invariant-loop-count : goal.invariant-loop-count
invariant-loop-count l = l.counts.items ≡ map (λ o. unwrap_or o 0) (take l.count-index l.found)
