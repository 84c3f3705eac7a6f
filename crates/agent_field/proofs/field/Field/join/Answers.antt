use Rattle.std.proofs.Common.{rules, ap, ◌∙◌}
use Rattle.agent_field.specs.Steps.{Mine}
use Rattle.agent_field.proofs.Moves.{joins}
use Rattle.agent_field.proofs.field.Field.join.Goals as goal

pub join_seat-requires : goal.join_seat-requires
join_seat-requires c =
    let mine = c.args.seat.now.is_idle in
    let theirs = c.args.other.is_idle in (
      search rules,
      search rules,
      ap (λ (m : Mine). m.1) theirs,
      search rules,
      joins c.args.self.now.table.shared.key _ _ _ _ (ap (λ (m : Mine). m.0.live) mine) (ap (λ (m : Mine). m.0.number) mine ∙ c.requires.first.1) (ap (λ (m : Mine). m.0.live) theirs) (ap (λ (m : Mine). m.0.due) theirs) (ap (λ (m : Mine). m.0.held) theirs),
    )

pub invariant_of-seat : goal.invariant_of-seat
invariant_of-seat c = search rules
