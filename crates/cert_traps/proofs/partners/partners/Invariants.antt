use Rattle.std.proofs.Common.{◌≡◌, map}
use Rattle.std.specs.List.{range_with_len}
use Rattle.cert_base.specs.FactsAndCases.{can_meet_in}
use Rattle.cert_traps.proofs.partners.partners.Given as goal

abbrev pub invariant-loop-q : goal.invariant-loop-q
invariant-loop-q l = l.table.items ≡ map (can_meet_in l.leaf l.state) (range_with_len 0 l.q)
