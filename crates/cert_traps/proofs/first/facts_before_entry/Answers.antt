use Rattle.std.proofs.Common.{rules}
use Rattle.cert_traps.proofs.first.facts_before_entry.Goals as goal

pub returns : goal.returns
returns c = search rules
