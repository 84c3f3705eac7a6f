use Rattle.std.proofs.Common.{take}
use Rattle.std.specs.Prelude.{All}
use Rattle.cert_linear.specs.Sums.{IsListedIfPositive}
use Rattle.cert_linear.proofs.sum.Sum.list_positive_among.Given as goal

abbrev pub invariant-loop-variable : goal.invariant-loop-variable
invariant-loop-variable l = All (IsListedIfPositive l.self l.positive.items) (take l.variable-index l.variables)
