use Rattle.std.proofs.Common.{◌≡◌, length}
use Rattle.sample_nets.proofs.parts.numbered.Given as goal

abbrev pub invariant-loop-k : goal.invariant-loop-k
invariant-loop-k l = length l.list.items ≡ l.k-counter
