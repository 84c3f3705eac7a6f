use Rattle.std.proofs.Common.{ℕ, ◌<◌, get_or}
use Rattle.pop_net.specs.declared.net.Word.{Word}
use Rattle.pop_net.specs.Lanes.{IsValid}
use Rattle.run_tests.proofs.fields.are_valid.Given as goal

abbrev pub invariant-loop-word : goal.invariant-loop-word
invariant-loop-word l = (a : ℕ) (d : Word) → a < l.word-index → IsValid l.net (get_or l.words a d)
