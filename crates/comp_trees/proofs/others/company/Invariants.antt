use Rattle.std.proofs.Common.{◌≡◌}
use Rattle.std.specs.Prelude.{not, ◌==◌, ◌&&◌, filter}
use Rattle.std.specs.List.{range_with_len}
use Rattle.cert_base.specs.FactsAndCases.{can_meet_in}
use Rattle.comp_trees.proofs.others.company.Given as goal

abbrev pub invariant-loop-q : goal.invariant-loop-q
invariant-loop-q l =
    l.states.items ≡ filter (λ q. not (q == l.state) && can_meet_in l.leaf l.state q) (range_with_len 0 l.q)
