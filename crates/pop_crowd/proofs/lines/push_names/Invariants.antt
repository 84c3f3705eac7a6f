use Rattle.std.proofs.Common.{◌≡◌, ◌++◌, take}
use Rattle.std.specs.List.{join_with_byte}
use Rattle.pop_crowd.specs.Tally.{slash, names_of}
use Rattle.pop_crowd.proofs.lines.push_names.Given as goal

abbrev pub invariant-loop-i : goal.invariant-loop-i
invariant-loop-i l = l.text.items ≡ l.fn.text.items ++ join_with_byte slash (take l.i (names_of l.net.leaves l.tuple))
