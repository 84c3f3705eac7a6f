use Rattle.std.proofs.Common.{◌≡◌, ◌∷◌, map}
use Rattle.std.specs.Prelude.{◌==◌, ◌&&◌, not, filter}
use Rattle.std.specs.List.{range_with_len}
use Rattle.cert_base.specs.FactsAndCases.{can_meet_in, absent_fact, occurs_fact}
use Rattle.cert_traps.proofs.present.presence_case.Given as goal

abbrev pub invariant-loop-q : goal.invariant-loop-q
invariant-loop-q l =
    l.facts.items ≡ occurs_fact l.leaf l.state ∷ map (absent_fact l.leaf) (filter (λ q. not (q == l.state) && can_meet_in l.leaf l.state q) (range_with_len 0 l.q))
