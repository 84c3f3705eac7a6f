use Rattle.std.proofs.Common.{ℕ, rules, sym, ap, ◌∙◌}
use Rattle.agent_field.specs.Standing.{lock_place}
use Rattle.agent_field.proofs.Moves.{unlocks_at}
use Rattle.agent_field.proofs.field.Field.unlock.Goals as goal

pub store-requires : goal.store-requires
store-requires c =
    let held = c.requires.last in
    let f = c.args.self.now in
    let at = c.place_of_lock-at.ensures ∙ ap (λ (n : ℕ). lock_place n c.args.s) (sym f.agents_are) in
    (search rules, search rules, unlocks_at f.table.shared.key _ _ c.args.token.now.me c.args.s _ at c.requires.usable.live c.requires.usable.ours (record { before = held.0; last = held.1; once = held.2; due = c.requires.due }))
