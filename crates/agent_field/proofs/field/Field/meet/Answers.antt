use Rattle.std.proofs.Common.{rules, ap, subst}
use Rattle.agent_field.specs.Steps.{Mine, IsNewest}
use Rattle.agent_field.proofs.field.Field.meet.Goals as goal

pub returns : goal.returns
returns g c =
    let locked = subst (IsNewest c.react_pair-ticket.result.0) (ap (λ (m : Mine). m.0) c.lock_pair.ensures.me) c.react_pair-ticket.ensures.newest in
    let idle = ap (λ (m : Mine). m.0) c.args.seat.now.is_idle in
    let was = subst (IsNewest c.react_pair-ticket.result.0) idle (record { own = locked.own; taken_in = locked.taken_in; looks = locked.looks }) in record {
      ours = search rules;
      logged = search rules;
      spare = search rules;
      newest = record { own = was.own; taken_in = was.taken_in; looks = was.looks };
      moment = search rules;
      rest = search rules;
    }

pub invariant_of-seat : goal.invariant_of-seat
invariant_of-seat c = search rules

pub lock_pair-requires-clause-shards : goal.lock_pair-requires-clause-shards
lock_pair-requires-clause-shards c = search rules

pub react_pair-ticket-requires-clause-locked : goal.react_pair-ticket-requires-clause-locked
react_pair-ticket-requires-clause-locked c = search rules

pub unlock_pair-requires-clause-locked : goal.unlock_pair-requires-clause-locked
unlock_pair-requires-clause-locked c = search rules
