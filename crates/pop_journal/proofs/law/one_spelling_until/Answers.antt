use Rattle.pop_journal.proofs.Written
use Rattle.pop_journal.proofs.law.one_spelling_until.Goals as goal

pub returns : goal.returns
returns c = Written.text_is_held_until
