use Rattle.std.proofs.Common.{rules}
use Rattle.pop_journal.proofs.form.three.Goals as goal

pub returns : goal.returns
returns c = search rules
