use Rattle.std.proofs.Common.{rules}
use Rattle.cert_linear.proofs.sum.Sum.is_constant.Goals as goal

pub returns-then-has_multiples : goal.returns-then-has_multiples
returns-then-has_multiples c = search rules

pub returns-else-has_multiples : goal.returns-else-has_multiples
returns-else-has_multiples c = search rules
