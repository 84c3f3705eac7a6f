use Rattle.std.proofs.Common.{◌≡◌, map, take}
use Rattle.pop_checker.specs.ValidStable.{predicate_alone}
use Rattle.pop_checker.proofs.preds.predicates_of.Given as goal

abbrev pub invariant-loop-part : goal.invariant-loop-part
invariant-loop-part l = l.leaves.items ≡ map predicate_alone (take l.part-index l.proof.leaves)
