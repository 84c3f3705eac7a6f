use Rattle.std.proofs.Common.{◌≡◌, take}
use Rattle.pop_leaf.proofs.parts.helpers_of.Given as goal

abbrev pub invariant-loop-j : goal.invariant-loop-j
invariant-loop-j l = l.helpers.items ≡ take l.j l.leaf.helpers
