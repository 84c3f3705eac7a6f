use Rattle.std.proofs.Common.{rules}
use Rattle.cert_linear.proofs.sum.Sum.has_negative_constant_with.Goals as goal

pub returns : goal.returns
returns c = search rules
