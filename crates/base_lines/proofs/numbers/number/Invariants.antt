use Rattle.base_lines.proofs.Digits.{Digits}
use Rattle.base_lines.proofs.numbers.number.Given as goal

abbrev pub invariant-loop-byte : goal.invariant-loop-byte
invariant-loop-byte l = Digits l.text l.byte-index l.value
