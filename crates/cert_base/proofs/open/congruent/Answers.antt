use Rattle.std.proofs.Common.{rules}
use Rattle.cert_base.proofs.open.congruent.Goals as goal

pub returns : goal.returns
returns c = search rules
