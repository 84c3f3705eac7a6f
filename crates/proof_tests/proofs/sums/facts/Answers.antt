use Rattle.std.proofs.lemmas.List.Elements.{All-push}
use Rattle.cert_linear.specs.Conditions.{IsOrdered}
use Rattle.proof_tests.proofs.sums.facts.Goals as goal

pub loop-kind-preserved : goal.loop-kind-preserved
loop-kind-preserved c = record {
  ordered =
      rw c.in_ok-push.ensures.items
      (All-push IsOrdered c.loop-kind.facts.items c.in_ok-fact.field-0 c.loop-kind.invariant.ordered c.in_ok-fact.ensures);
}
