use Rattle.std.proofs.Common.{take}
use Rattle.pop_leaf.specs.Marks.{AreMarks}
use Rattle.pop_leaf.proofs.marks.marks_of.Given as goal

abbrev pub invariant-loop-number : goal.invariant-loop-number
invariant-loop-number l = AreMarks l.count (take l.number-index l.kept) l.marks.items
