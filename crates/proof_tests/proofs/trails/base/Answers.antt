use Rattle.std.specs.Prelude.{true}
use Rattle.cert_tree.proofs.Ordered.{base_ordered, all_of}
use Rattle.proof_tests.proofs.trails.base.Goals as goal

pub returns-in-Ok : goal.returns-in-Ok
returns-in-Ok c = rw c.in-Ok.ensures.facts (all_of (base_ordered c.args.leaf.now c.args.pred.now true))
