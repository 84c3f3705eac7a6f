use Rattle.std.proofs.Common.{rules}
use Rattle.cert_base.proofs.meet.is_changed.Goals as goal

pub returns-then-r-p : goal.returns-then-r-p
returns-then-r-p c = search rules

pub returns-else-r-p : goal.returns-else-r-p
returns-else-r-p c = search rules
