use Rattle.std.proofs.Common.{◌≡◌, ◌+◌, ◌-◌, ℕ, vec_len}
use Rattle.cert_linear.specs.Sums.{coefficient_of, IsTidy}
use Rattle.cert_linear.proofs.sum.Sum.reach.Given as goal

abbrev pub invariant-loop-self : goal.invariant-loop-self
invariant-loop-self l = record {
  same : (q : ℕ) → coefficient_of l.self q ≡ coefficient_of l.initial.self q;
  constant : l.self.constant ≡ l.initial.self.constant;
  tidy : IsTidy l.self;
}

abbrev pub decreases-loop-self : goal.decreases-loop-self
decreases-loop-self l = l.variable + 1 - vec_len l.self.entries
