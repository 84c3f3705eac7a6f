use Rattle.std.proofs.Common.{take}
use Rattle.cert_linear.specs.Sums.{IsTidy}
use Rattle.cert_linear.proofs.Coefficients.{IsEntered}
use Rattle.cert_linear.proofs.sum.Sum.add.Given as goal

abbrev pub invariant-loop-term : goal.invariant-loop-term
invariant-loop-term l = record {
  entered : IsEntered l.by (take l.term-index l.term-items) l.initial.self l.self;
  tidy : IsTidy l.self;
}
