use Rattle.std.proofs.Common.{rules}
use Rattle.cert_base.proofs.fact.only.Goals as goal

pub returns : goal.returns
returns c = search rules
