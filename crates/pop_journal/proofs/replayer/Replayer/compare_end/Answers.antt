use Rattle.std.proofs.Common.{rules}
use Rattle.pop_journal.proofs.replayer.Replayer.compare_end.Goals as goal

pub returns-in-Some : goal.returns-in-Some
returns-in-Some c = search rules
