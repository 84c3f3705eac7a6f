use Rattle.pop_journal.proofs.Leading.{IsLeadOn}
use Rattle.pop_journal.proofs.short.leading_number.Given as goal

abbrev pub invariant-loop-i : goal.invariant-loop-i
invariant-loop-i l = IsLeadOn l.text l.i l.value
