use Rattle.std.specs.Prelude.{All}
use Rattle.cert_linear.specs.Conditions.{IsOrdered}
use Rattle.proof_tests.proofs.sums.facts.Given as goal

abbrev pub invariant-loop-kind : goal.invariant-loop-kind
invariant-loop-kind l = record {
  ordered : All IsOrdered l.facts.items;
}
