use Rattle.std.proofs.Common.{rules}
use Rattle.cert_traps.proofs.present.twin.Goals as goal

pub returns : goal.returns
returns c = search rules
