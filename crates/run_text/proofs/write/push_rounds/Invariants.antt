use Rattle.std.proofs.Common.{◌≡◌, ◌++◌, take}
use Rattle.run_text.specs.Journal.{round_lines, text_of}
use Rattle.run_text.proofs.write.push_rounds.Given as goal

abbrev pub invariant-loop-i : goal.invariant-loop-i
invariant-loop-i l = l.text.items ≡ l.fn.text.items ++ text_of (round_lines 1 (take l.i l.rounds))
