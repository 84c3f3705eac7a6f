use Rattle.std.proofs.Common.{◌≡◌, map, take}
use Rattle.cert_base.specs.FactsAndCases.{is_in}
use Rattle.cert_traps.proofs.set.StateSet.starts.Given as goal

abbrev pub invariant-loop-i : goal.invariant-loop-i
invariant-loop-i l = l.flags.items ≡ map (is_in l.self) (take l.i l.leaf.inputs)
