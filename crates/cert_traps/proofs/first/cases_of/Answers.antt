use Rattle.std.proofs.Common.{rules}
use Rattle.cert_traps.proofs.first.cases_of.Goals as goal

pub returns : goal.returns
returns c = search rules
