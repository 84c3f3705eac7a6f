use Rattle.std.proofs.Common.{◌≡◌, take}
use Rattle.std.specs.Prelude.{count_by}
use Rattle.cert_base.specs.FactsAndCases.{is_in}
use Rattle.cert_traps.proofs.set.StateSet.helpers.Given as goal

abbrev pub invariant-loop-j : goal.invariant-loop-j
invariant-loop-j l = l.count ≡ count_by (is_in l.self) (take l.j l.leaf.helpers)
