use Rattle.std.proofs.Common.{◌≡◌, take}
use Rattle.pop_leaf.proofs.parts.states_of.Given as goal

abbrev pub invariant-loop-q : goal.invariant-loop-q
invariant-loop-q l = l.states.items ≡ take l.q l.leaf.states
