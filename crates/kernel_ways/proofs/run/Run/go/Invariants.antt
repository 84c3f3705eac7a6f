use Rattle.std.proofs.Common.{◌≡◌, sum}
use Rattle.kernel_ways.proofs.run.Run.go.Given as goal

abbrev pub invariant-loop : goal.invariant-loop
invariant-loop l = sum l.self.counts ≡ sum l.fn.self.counts
