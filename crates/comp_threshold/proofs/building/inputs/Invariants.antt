use Rattle.std.proofs.Common.{◌≡◌, map, take}
use Rattle.comp_threshold.specs.ThresholdLeaf.{place_of_value}
use Rattle.comp_threshold.proofs.building.inputs.Given as goal

abbrev pub invariant-loop-a : goal.invariant-loop-a
invariant-loop-a l = l.inputs.items ≡ map (place_of_value l.width.number) (take l.a-index l.coefs)
