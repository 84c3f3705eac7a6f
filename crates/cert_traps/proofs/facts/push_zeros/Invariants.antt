use Rattle.std.proofs.Common.{◌≡◌, ◌+◌, ◌++◌, map, take}
use Rattle.std.specs.Prelude.{pos}
use Rattle.cert_base.specs.declared.fact.Fact.TheVariants.{Eq}
use Rattle.cert_base.specs.Rows.{single_row}
use Rattle.cert_base.specs.FactsAndCases.{places_from}
use Rattle.cert_traps.proofs.facts.push_zeros.Given as goal

abbrev pub invariant-loop-t : goal.invariant-loop-t
invariant-loop-t l =
    l.facts.items ≡ l.fn.facts.items ++ map (λ t. Eq (single_row (l.first + t) (pos 1) (pos 0))) (places_from 0 (λ flag. flag) (take l.t l.flags))
