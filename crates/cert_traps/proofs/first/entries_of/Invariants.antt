use Rattle.std.proofs.Common.{◌≡◌, map, take}
use Rattle.std.specs.Prelude.{filter}
use Rattle.cert_base.specs.FactsAndCases.{enters, is_possible}
use Rattle.cert_traps.proofs.first.entries_of.Given as goal

abbrev pub invariant-loop-t : goal.invariant-loop-t
invariant-loop-t l = l.cases.items ≡ map (is_possible l.leaf) (filter (enters l.set) (take l.t l.leaf.moves))
