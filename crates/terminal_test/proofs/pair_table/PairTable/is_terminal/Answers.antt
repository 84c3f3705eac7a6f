use Rattle.std.proofs.Common.{◌≡◌, ℕ, Bool, true, false, not, refl, rules}
use Rattle.std.specs.Prelude.{Option, Some, None, is_some, ◌↔◌}
use Rattle.pop_net.specs.Lanes.{crowd_of}
use Rattle.pop_crowd.proofs.Words.{crowd_tuples}
use Rattle.terminal_test.specs.TableNet.{table_net}
use Rattle.terminal_test.proofs.Ends.{not_terminal}
use Rattle.terminal_test.proofs.pair_table.PairTable.is_terminal.Goals as goal

pub returns-in-Some-pair_beside-clause-terminal : goal.returns-in-Some-pair_beside-clause-terminal
returns-in-Some-pair_beside-clause-terminal c =
    let net = table_net c.args.self.now in
    let next = c.in-Some-pair_beside.next in (
      λ e. cc,
      λ t. absurd (not_terminal net (crowd_of net c.args.crowd.now) (crowd_tuples net c.args.crowd.now) next.0 next.1 c.in-Some-pair_beside.ensures t),
    )

-- whether none was found, given what that means
none_says : {P : Type 0} (found : Option (ℕ × ℕ)) (none : Bool) → is_some found ≡ not none → (found ≡ None) ↔ P → (none ≡ true) ↔ P
none_says None true e says = (λ _. says.0 refl, λ _. refl)
none_says None false e says = cc
none_says (Some pair) true e says = cc
none_says (Some pair) false e says = (λ f. cc, λ p. let f = says.1 p in cc)

pub returns-clause-terminal : goal.returns-clause-terminal
returns-clause-terminal c = none_says c.in_ok-found.found c.is_none.result c.is_none.ensures c.in_ok-found.ensures.none

pub returns-clause-kept : goal.returns-clause-kept
returns-clause-kept c = search rules
