use Rattle.std.proofs.Common.{◌≡◌, map, take}
use Rattle.pop_settle.specs.Chosen.{part_at}
use Rattle.pop_settle.proofs.choosing.chosen_proof.Given as goal

abbrev pub invariant-loop-part : goal.invariant-loop-part
invariant-loop-part l = l.leaves.items ≡ map (part_at l.counts) (take l.part-index l.proof.leaves)
