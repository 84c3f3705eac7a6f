use Rattle.std.proofs.Common.{rules}
use Rattle.pop_journal.proofs.replayer.is_same_meeting.Goals as goal

pub returns-clause-same : goal.returns-clause-same
returns-clause-same c = search rules

pub returns-clause-other : goal.returns-clause-other
returns-clause-other c = search rules
