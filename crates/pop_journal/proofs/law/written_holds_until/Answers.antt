use Rattle.pop_journal.proofs.Written
use Rattle.pop_journal.proofs.law.written_holds_until.Goals as goal

pub returns : goal.returns
returns c = Written.written_is_held_until
