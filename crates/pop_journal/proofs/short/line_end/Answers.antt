use Rattle.std.proofs.Common.{rules}
use Rattle.pop_journal.proofs.short.line_end.Goals as goal

pub returns : goal.returns
returns c = search rules
