use Rattle.std.proofs.Common.{rules}
use Rattle.cert_linear.proofs.closing.row_to_add.Goals as goal

pub returns-in-Ge-None : goal.returns-in-Ge-None
returns-in-Ge-None c = search rules
