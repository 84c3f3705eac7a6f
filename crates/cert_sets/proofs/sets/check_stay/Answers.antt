use Rattle.std.proofs.Common.{inr, List, ℕ, subst}
use Rattle.std.specs.Prelude.{Option}
use Rattle.cert_base.specs.ValidLayers.{moves_of_layers}
use Rattle.theory_sets.specs.Stays.{SleepIn}
use Rattle.cert_sets.specs.declared.fault.SetFault.{SetFault}
use Rattle.cert_sets.specs.SetFaults.{IsLeft}
use Rattle.cert_sets.specs.SetSearch.{FindsLeft}
use Rattle.cert_sets.proofs.GoodSets.{left_bad}
use Rattle.cert_sets.proofs.sets.check_stay.Goals as goal

pub returns-then-is_settled-clause-good : goal.returns-then-is_settled-clause-good
returns-then-is_settled-clause-good c =
    let given = c.args.given.now in
    record {
      right = c.requires;
      stays = inr (subst (λ (s : List ℕ). SleepIn given.leaf.now s (moves_of_layers given.layers.now)) c.in_ok-members.ensures c.if-is_settled.ensures);
    }

pub returns-clause-fault : goal.returns-clause-fault
returns-clause-fault c =
    let leaf = c.args.given.now.leaf.now in
    let moves = moves_of_layers c.args.given.now.layers.now in
    let number = c.args.number in
    let fault = c.in-Some.fault in
    let left = subst (λ (o : Option SetFault). FindsLeft leaf moves number c.in_ok-members.members o) c.in-Some.is c.in_ok-fault.ensures in
    left_bad leaf moves c.args.set.now c.args.value number fault c.requires
    (subst (λ (s : List ℕ). ¬ SleepIn leaf s moves) c.in_ok-members.ensures c.if-is_settled.ensures)
    (subst (λ (s : List ℕ). IsLeft leaf moves number s fault) c.in_ok-members.ensures left)
