use Rattle.std.proofs.Common.{◌<◌, ℕ, rules, arith, sym, ap, ◌∙◌, subst}
use Rattle.agent_field.specs.declared.view.Setup.{Setup}
use Rattle.agent_field.specs.Steps.{Mine}
use Rattle.agent_field.proofs.Moves.{splits}
use Rattle.agent_field.proofs.field.Field.split.Goals as goal

pub split_seat-token-requires : goal.split_seat-token-requires
split_seat-token-requires c =
    let mine = c.args.seat.now.is_idle in
    let next = ap (λ (m : Mine). m.0.next) mine in
    let places = c.args.seat.now.places c.requires.first.1 in
    let room : c.args.seat.now.next < c.args.seat.now.seat.me.0.setup.seats = let l = c.requires.left in let p = places.1 in omega arith in (
      search rules,
      search rules,
      splits c.args.self.now.table.shared.key _ _ (ap (λ (m : Mine). m.0.live) mine) (ap (λ (m : Mine). m.0.number) mine ∙ c.requires.first.1)
          (subst (λ (n : ℕ). n < c.args.self.now.table.shared.key.seats) (sym next) (subst (λ (k : Setup). c.args.seat.now.next < k.seats) c.requires.first.0.1 room)),
    )

pub invariant_of-seat : goal.invariant_of-seat
invariant_of-seat c = search rules
