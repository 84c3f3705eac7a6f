use Rattle.std.proofs.Common.{◌≡◌, ◌*◌, ◌^◌, ◌≤◌, take, sum}
use Rattle.pop_crowd.proofs.starts.total.Given as goal

abbrev pub invariant-loop-count : goal.invariant-loop-count
invariant-loop-count l = record { sum : l.sum ≡ sum (take l.count-index l.counts); small : l.sum ≤ 2 ^ 64 * l.count-index }
