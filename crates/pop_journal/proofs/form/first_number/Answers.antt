use Rattle.std.proofs.Common.{sym}
use Rattle.pop_journal.proofs.RunLine.{printed_between}
use Rattle.pop_journal.proofs.form.first_number.Goals as goal

pub returns-clause-within : goal.returns-clause-within
returns-clause-within c = printed_between c.args.least c.args.most c.cut.result.0.now _ (sym c.in_ok-number.ensures.value)
