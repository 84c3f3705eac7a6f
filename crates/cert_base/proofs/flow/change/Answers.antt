use Rattle.std.proofs.Common.{rules}
use Rattle.cert_base.proofs.flow.change.Goals as goal

pub returns : goal.returns
returns c = search rules
