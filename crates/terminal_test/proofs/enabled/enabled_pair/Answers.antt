use Rattle.std.proofs.Common.{◌≡◌, subst}
use Rattle.std.specs.Prelude.{◌↔◌, None, IfOk, IfSome}
use Rattle.pop_leaf.specs.NetModel.{NetModel}
use Rattle.pop_net.specs.Lanes.{crowd_of}
use Rattle.pop_leaf.specs.Step.{Step}
use Rattle.pop_leaf.specs.Terminal.{IsTerminal}
use Rattle.terminal_test.specs.Pairs.{IsLeastPair, MovesOn}
use Rattle.terminal_test.proofs.enabled.enabled_pair.Goals as goal

pub returns-clause-none : goal.returns-clause-none
returns-clause-none c =
    subst (λ (net : NetModel). IfOk c.enabled_pair.result (λ found. (found ≡ None) ↔ IsTerminal (Step net) (crowd_of net c.args.crowd.now))) c.in_ok-table.ensures c.enabled_pair.ensures.none

pub returns-clause-least : goal.returns-clause-least
returns-clause-least c =
    subst (λ (net : NetModel). IfOk c.enabled_pair.result (λ found. IfSome found (λ (pair : _). IsLeastPair net (crowd_of net c.args.crowd.now) pair.0 pair.1))) c.in_ok-table.ensures c.enabled_pair.ensures.least

pub returns-clause-moves : goal.returns-clause-moves
returns-clause-moves c =
    subst (λ (net : NetModel). IfOk c.enabled_pair.result (λ found. IfSome found (λ _. MovesOn net (crowd_of net c.args.crowd.now)))) c.in_ok-table.ensures c.enabled_pair.ensures.moves
