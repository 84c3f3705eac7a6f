use Rattle.std.proofs.Common.{rules}
use Rattle.cert_linear.proofs.closing.is_denied_by.Goals as goal

pub returns-in-NotCong-clause-value : goal.returns-in-NotCong-clause-value
returns-in-NotCong-clause-value c = search rules
