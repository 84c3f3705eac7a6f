use Rattle.std.proofs.Common.{rules}
use Rattle.cert_traps.proofs.role.passes.Goals as goal

pub returns-then-puts : goal.returns-then-puts
returns-then-puts c = search rules

pub returns-else-puts : goal.returns-else-puts
returns-else-puts c = search rules
