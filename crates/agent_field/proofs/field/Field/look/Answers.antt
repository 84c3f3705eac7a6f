use Rattle.std.proofs.Common.{rules, ap, ◌∙◌, subst}
use Rattle.agent_field.specs.Steps.{Mine, with_known, IsNewest}
use Rattle.agent_field.proofs.Below.{saw_all}
use Rattle.agent_field.proofs.field.Field.look.Goals as goal

pub watch-ticket-requires-clause-all : goal.watch-ticket-requires-clause-all
watch-ticket-requires-clause-all g c =
    let f = c.args.self.now in
    let s = c.args.seat.now in
    saw_all f.table.shared.key s.seat c.lock_all.new.token c.read_all-words.new.token f.shards f.agents c.read_all-words.result.items (ap (λ (m : Mine). m.0.number) s.is_idle ∙ c.requires.first.1) c.lock_all.ensures c.read_all-words.ensures f.shards_are f.agents_are

pub returns : goal.returns
returns g c =
    let read = c.read_all-words.ensures in
    let now = read.read.me ∙ ap (λ (m : Mine). (with_known read.known m.0, m.1)) c.lock_all.ensures.me in
    let was = subst (IsNewest c.watch-ticket.result) (ap (λ (m : Mine). m.0) now) c.watch-ticket.ensures.newest in
    let idle = ap (λ (m : Mine). m.0) c.args.seat.now.is_idle in
    let before = subst (IsNewest c.watch-ticket.result) idle (record { own = was.own; taken_in = was.taken_in; looks = was.looks }) in record {
      ours = search rules;
      looked = search rules;
      spare = search rules;
      newest = record { own = before.own; taken_in = before.taken_in; looks = before.looks };
      rest = search rules;
    }
