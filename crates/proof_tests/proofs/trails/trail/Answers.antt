use Rattle.std.proofs.lemmas.List.Elements.{All-push}
use Rattle.cert_linear.specs.Conditions.{IsOrdered}
use Rattle.proof_tests.proofs.trails.trail.Goals as goal

pub returns-in-Ok-clause-ordered : goal.returns-in-Ok-clause-ordered
returns-in-Ok-clause-ordered c =
    rw (c.in-Ok.ensures.added, c.new-trail.ensures)
    (All-push IsOrdered c.in_ok-facts.field-0 c.in_ok-none_left.field-0 c.in_ok-facts.ensures.ordered c.in_ok-none_left.ensures)
