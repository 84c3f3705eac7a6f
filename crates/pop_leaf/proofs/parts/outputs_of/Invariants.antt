use Rattle.std.proofs.Common.{◌≡◌, take}
use Rattle.pop_leaf.proofs.parts.outputs_of.Given as goal

abbrev pub invariant-loop-q : goal.invariant-loop-q
invariant-loop-q l = l.outputs.items ≡ take l.q l.leaf.outputs
