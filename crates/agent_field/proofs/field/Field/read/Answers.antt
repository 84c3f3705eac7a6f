use Rattle.std.proofs.Common.{ℕ, ◌<◌, rules, sym, ap, ◌∙◌, subst}
use Rattle.agent_field.specs.Standing.{In, agent_place}
use Rattle.agent_field.proofs.Moves.{reads_at}
use Rattle.agent_field.proofs.field.Field.read.Goals as goal

pub load-requires : goal.load-requires
load-requires c =
    let me = c.args.token.now.me in
    let f = c.args.self.now in (
      search rules,
      search rules,
      reads_at f.table.shared.key _ _ me c.args.a _ (c.place_of_agent-at.ensures ∙ ap (λ (n : ℕ). agent_place n c.args.a) (sym f.shards_are)) c.requires.usable.live c.requires.usable.ours
          (subst (λ (n : ℕ). c.args.a < n) (sym f.agents_are) c.requires.agent) c.requires.held (λ y h. subst (In (c.args.a, y)) c.requires.due h),
    )
