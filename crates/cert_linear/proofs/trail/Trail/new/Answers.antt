use Rattle.std.proofs.Common.{rules, length}
use Rattle.cert_linear.proofs.trail.Trail.new.Goals as goal

pub invariant_of-result : goal.invariant_of-result
invariant_of-result c = (search rules, search rules, c.new.ensures (length c.as_slice.result.now) c.into_vec.result.items)
