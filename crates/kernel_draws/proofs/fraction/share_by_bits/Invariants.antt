use Rattle.std.proofs.Common.{◌≡◌, ◌+◌, ◌*◌, ◌^◌, ◌<◌}
use Rattle.kernel_draws.proofs.fraction.share_by_bits.Given as goal

abbrev pub invariant-loop-bit : goal.invariant-loop-bit
invariant-loop-bit l = (l.rest < l.among) × (l.found * l.among + l.rest ≡ l.good * 2 ^ l._bit) × (l.found < 2 ^ l._bit)
