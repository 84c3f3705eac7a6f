use Rattle.std.proofs.Common.{rules}
use Rattle.cert_linear.proofs.sum.Sum.push_positive.Goals as goal

pub returns-then-coefficient-le0-clause-listed : goal.returns-then-coefficient-le0-clause-listed
returns-then-coefficient-le0-clause-listed c = search rules
