use Rattle.std.proofs.Common.{◌≡◌, map, take}
use Rattle.comp_counting.specs.FullState.{flock_start}
use Rattle.comp_counting.proofs.agents.inputs.Given as goal

abbrev pub invariant-loop-coef : goal.invariant-loop-coef
invariant-loop-coef l = l.inputs.items ≡ map (flock_start l.enough l.power) (take l.coef-index l.coefs)
