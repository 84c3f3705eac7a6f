use Rattle.std.proofs.Common.{◌≡◌}
use Rattle.comp_flock.proofs.Offsets.{counted_before}
use Rattle.comp_flock.proofs.offset.count_set.Given as goal

abbrev pub invariant-loop-q : goal.invariant-loop-q
invariant-loop-q l = l.count ≡ counted_before l.n l.q
