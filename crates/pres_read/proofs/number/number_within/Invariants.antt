use Rattle.std.proofs.Common.{◌≡◌, ◌≤◌, drop}
use Rattle.pres_read.specs.Numbers.{value_after, value_of_digits}
use Rattle.pres_read.proofs.number.number_within.Given as goal

abbrev pub invariant-loop-digit : goal.invariant-loop-digit
invariant-loop-digit l = record {
  value : value_after l.value (drop l.digit-index l.digits) ≡ value_of_digits l.digits;
  small : l.value ≤ l.limit;
}
