use Rattle.std.proofs.Common.{◌≡◌, ◌+◌, ◌-◌, ℕ, vec_len}
use Rattle.cert_linear.specs.Sums.{rest_at}
use Rattle.cert_linear.proofs.sum.Sum.reach_rest.Given as goal

abbrev pub invariant-loop-self : goal.invariant-loop-self
invariant-loop-self l = record {
  same : (q : ℕ) → rest_at l.self.rests.items q ≡ rest_at l.initial.self.rests.items q;
  entries : l.self.entries ≡ l.initial.self.entries;
  touched : l.self.touched ≡ l.initial.self.touched;
  constant : l.self.constant ≡ l.initial.self.constant;
}

abbrev pub decreases-loop-self : goal.decreases-loop-self
decreases-loop-self l = l.variable + 1 - vec_len l.self.rests
