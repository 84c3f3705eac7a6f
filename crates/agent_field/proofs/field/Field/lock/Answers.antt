use Rattle.std.proofs.Common.{ℕ, ◌+◌, ◌<◌, rules, sym, ap, ◌∙◌, subst}
use Rattle.agent_field.specs.Standing.{lock_place}
use Rattle.agent_field.specs.Steps.{Mine}
use Rattle.agent_field.proofs.Moves.{locks_at}
use Rattle.agent_field.proofs.field.Field.lock.Goals as goal

pub compare_exchange-found-requires : goal.compare_exchange-found-requires
compare_exchange-found-requires g c =
    let same = c.loop.invariant.1 in
    let f = c.args.self.now in (
      search rules,
      search rules,
      locks_at f.table.shared.key _ _ c.loop.token.me c.args.s (c.args.number + 1) _
          (c.place_of_lock-at.ensures ∙ ap (λ (n : ℕ). lock_place n c.args.s) (sym f.agents_are))
          (ap (λ (m : Mine). m.0.live) same ∙ c.requires.usable.live)
          (ap (λ (m : Mine). m.0.setup) same ∙ c.requires.usable.ours)
          (ap (λ (m : Mine). m.0.number + 1) same ∙ ap (λ (n : ℕ). n + 1) c.requires.number_is)
          (subst (λ (n : ℕ). c.args.s < n) (sym f.shards_are) c.requires.shard)
          (ap (λ (m : Mine). m.0.due) same ∙ c.requires.due),
    )
