use Rattle.std.proofs.Common.{◌≡◌, drop}
use Rattle.std.specs.Prelude.{fold}
use Rattle.std.specs.Int.{int_max}
use Rattle.cert_layers.proofs.bound.greatest_of.Given as goal

abbrev pub invariant-loop-weight : goal.invariant-loop-weight
invariant-loop-weight l = fold int_max l.greatest (drop l.weight-index l.others) ≡ fold int_max l.initial.greatest l.others
