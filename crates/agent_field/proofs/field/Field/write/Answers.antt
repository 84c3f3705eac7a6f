use Rattle.std.proofs.Common.{ℕ, rules, sym, ap, ◌∙◌, subst}
use Rattle.agent_field.specs.declared.view.Setup.{Setup}
use Rattle.agent_field.specs.Standing.{In, agent_at, agent_place}
use Rattle.agent_field.specs.Steps.{Mine, writing}
use Rattle.agent_field.proofs.Finding.{found, not_found}
use Rattle.agent_field.proofs.Moves.{writes_at, finds_written_at}
use Rattle.agent_field.proofs.field.Field.write.Goals as goal

pub load-requires : goal.load-requires
load-requires c =
    let f = c.args.self.now in (
      search rules,
      search rules,
      finds_written_at f.table.shared.key _ _ c.args.token.now.me c.args.a c.args.word _ (c.place_of_agent-at.ensures ∙ ap (λ (n : ℕ). agent_place n c.args.a) (sym f.shards_are)) c.requires.usable.live c.requires.usable.ours c.requires.due,
    )

pub store-requires : goal.store-requires
store-requires c =
    let f = c.args.self.now in
    let place = c.place_of_agent-at.ensures ∙ ap (λ (n : ℕ). agent_place n c.args.a) (sym f.shards_are) in
    let same = not_found f.table.shared.key f.table.shared.table_id.slots c.args.token.now.me c.load.new.seat.me c.args.a c.args.word _ _ place c.requires.usable.ours c.requires.only c.load.ensures.2 c.if-load-word.true in (
      search rules,
      search rules,
      writes_at f.table.shared.key _ _ c.load.new.seat.me c.args.a c.args.word _ place (ap (λ (m : Mine). m.0.live) same ∙ c.requires.usable.live) (ap (λ (m : Mine). m.0.setup) same ∙ c.requires.usable.ours)
          (subst (λ (m : Mine). In (c.args.a, c.args.word) m.0.due) (sym same) c.requires.due),
    )

pub returns-then-load-word : goal.returns-then-load-word
returns-then-load-word c =
    let f = c.args.self.now in
    let place = c.place_of_agent-at.ensures ∙ ap (λ (n : ℕ). agent_place n c.args.a) (sym f.shards_are) in
    let same = not_found f.table.shared.key f.table.shared.table_id.slots c.args.token.now.me c.load.new.seat.me c.args.a c.args.word _ _ place c.requires.usable.ours c.requires.only c.load.ensures.2 c.if-load-word.true in
    let ours = ap (λ (m : Mine). m.0.setup) same ∙ c.requires.usable.ours in record {
      table = c.store.ensures.0 ∙ c.load.ensures.0;
      me = c.store.ensures.2.0 c.args.a (place ∙ ap (λ (z : Setup). agent_at z c.args.a) (sym ours))
          ∙ ap (λ (m : Mine). (writing c.args.a m.0, m.1)) same;
    }

pub returns-else-load-word : goal.returns-else-load-word
returns-else-load-word c =
    let f = c.args.self.now in
    let place = c.place_of_agent-at.ensures ∙ ap (λ (n : ℕ). agent_place n c.args.a) (sym f.shards_are) in record {
      table = c.load.ensures.0;
      me = found f.table.shared.key f.table.shared.table_id.slots c.args.token.now.me c.load.new.seat.me c.args.a c.args.word _ _ place c.requires.usable.ours c.requires.only c.load.ensures.2 c.if-load-word.false;
    }
