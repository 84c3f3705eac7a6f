use Rattle.std.proofs.Common.{◌≡◌, replicate, false}
use Rattle.pop_leaf.proofs.marks.no_marks.Given as goal

abbrev pub invariant-loop-number : goal.invariant-loop-number
invariant-loop-number l = l.marks.items ≡ replicate l._number false
