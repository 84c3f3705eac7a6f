use Rattle.std.proofs.Common.{rules}
use Rattle.cert_traps.proofs.present.meets_other.Goals as goal

pub returns-then-q-state : goal.returns-then-q-state
returns-then-q-state c = search rules

pub returns-else-q-state : goal.returns-else-q-state
returns-else-q-state c = search rules
