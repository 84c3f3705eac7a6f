use Rattle.std.proofs.Common.{rules}
use Rattle.pop_journal.specs.Form.{spec_in}
use Rattle.pop_journal.proofs.form.spec_of.Goals as goal

pub returns-clause-spec : goal.returns-clause-spec
unfolding spec_in
returns-clause-spec c = search rules
