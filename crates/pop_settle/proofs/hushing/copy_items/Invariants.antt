use Rattle.std.proofs.Common.{◌≡◌, take}
use Rattle.pop_settle.proofs.hushing.copy_items.Given as goal

abbrev pub invariant-loop-i : goal.invariant-loop-i
invariant-loop-i l = l.items.items ≡ take l.i l.net.combine
