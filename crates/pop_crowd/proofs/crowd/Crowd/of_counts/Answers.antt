use Rattle.std.proofs.Common.{rules}
use Rattle.pop_crowd.proofs.crowd.Crowd.of_counts.Goals as goal

pub invariant_of-result : goal.invariant_of-result
invariant_of-result c = search rules
