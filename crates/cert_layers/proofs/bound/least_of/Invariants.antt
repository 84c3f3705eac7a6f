use Rattle.std.proofs.Common.{◌≡◌, drop}
use Rattle.std.specs.Prelude.{fold}
use Rattle.std.specs.Int.{int_min}
use Rattle.cert_layers.proofs.bound.least_of.Given as goal

abbrev pub invariant-loop-weight : goal.invariant-loop-weight
invariant-loop-weight l = fold int_min l.least (drop l.weight-index l.others) ≡ fold int_min l.initial.least l.others
