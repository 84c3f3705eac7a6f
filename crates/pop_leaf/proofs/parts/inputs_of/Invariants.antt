use Rattle.std.proofs.Common.{◌≡◌, take}
use Rattle.pop_leaf.proofs.parts.inputs_of.Given as goal

abbrev pub invariant-loop-i : goal.invariant-loop-i
invariant-loop-i l = l.inputs.items ≡ take l.i l.leaf.inputs
