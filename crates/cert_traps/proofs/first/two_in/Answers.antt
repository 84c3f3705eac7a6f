use Rattle.std.proofs.Common.{rules}
use Rattle.cert_traps.proofs.first.two_in.Goals as goal

pub returns : goal.returns
returns c = search rules
