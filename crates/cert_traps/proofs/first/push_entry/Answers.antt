use Rattle.std.proofs.Common.{rules}
use Rattle.cert_traps.proofs.first.push_entry.Goals as goal

pub returns-in_ok-push : goal.returns-in_ok-push
returns-in_ok-push c = search rules
