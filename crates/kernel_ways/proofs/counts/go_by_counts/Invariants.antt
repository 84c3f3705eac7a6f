use Rattle.std.proofs.Common.{◌≡◌, sum}
use Rattle.kernel_ways.proofs.counts.go_by_counts.Given as goal

abbrev pub invariant-loop : goal.invariant-loop
invariant-loop l = sum l.counts ≡ sum l.fn.counts
