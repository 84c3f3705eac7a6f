use Rattle.std.proofs.Common.{rules}
use Rattle.pop_journal.proofs.form.checked.Goals as goal

pub returns-clause-read : goal.returns-clause-read
returns-clause-read c = search rules
