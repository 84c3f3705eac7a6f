use Rattle.std.proofs.Common.{◌≡◌, ℕ, Bool, List, [], ◌∷◌, rules, refl, inl, sym, ap, ◌∙◌, subst}
use Rattle.pop_net.specs.declared.net.Word.{Word}
use Rattle.pop_leaf.specs.NetModel.{NetModel}
use Rattle.pop_net.specs.Lanes.{tuple_of}
use Rattle.pop_crowd.specs.Replay.{reacts}
use Rattle.agent_field.specs.declared.view.Setup.{Setup}
use Rattle.agent_field.specs.History.{logged}
use Rattle.agent_field.specs.Steps.{Mine, knowing, writing, pair_made, recorded, IsNewest}
use Rattle.agent_field.specs.Standing.{In}
use Rattle.agent_field.proofs.Without.{first_only, last_only, second_due, none_due}
use Rattle.agent_field.proofs.Drawn.{pair_drawn, pair_read}
use Rattle.agent_field.proofs.Usable.{still_usable}
use Rattle.agent_field.proofs.field.Field.react_pair.Goals as goal

pub draw-ticket-requires-clause-pair : goal.draw-ticket-requires-clause-pair
draw-ticket-requires-clause-pair c =
    let r = c.reacted-changed.result in
    pair_read c.args.self.now c.args.token.now _ _ c.args.a c.args.b c.read-x.result c.read-y.result r.0 r.1 c.requires.locked c.read-x.ensures.known c.read-y.ensures.known c.reacted-changed.ensures.reacted c.requires.agents.2 c.requires.room

pub write-requires : goal.write-requires
write-requires c =
    let t = c.args.token.now in
    let r = c.reacted-changed.result in
    let drawn = pair_drawn c.args.self.now _ c.draw-ticket.result t _ _ c.draw-ticket.new.token c.args.a c.args.b c.read-x.result c.read-y.result r.0 r.1 c.requires.locked c.read-x.ensures.known c.read-y.ensures.known c.reacted-changed.ensures.reacted c.draw-ticket.ensures in record {
      usable = still_usable c.args.self.now t _ _ c.requires.locked.holds.usable drawn refl refl;
      agent = c.requires.agents.0;
      due = subst (In (c.args.a, r.0)) (sym (ap (λ (m : Mine). m.0.due) drawn.me)) (inl refl);
      only = λ y h. first_only c.args.a c.args.b r.0 r.1 y c.requires.agents.2 (subst (In (c.args.a, y)) (ap (λ (m : Mine). m.0.due) drawn.me) h);
    }

pub write-requires-2 : goal.write-requires-2
write-requires-2 c =
    let t = c.args.token.now in
    let r = c.reacted-changed.result in
    let drawn = pair_drawn c.args.self.now _ c.draw-ticket.result t _ _ c.draw-ticket.new.token c.args.a c.args.b c.read-x.result c.read-y.result r.0 r.1 c.requires.locked c.read-x.ensures.known c.read-y.ensures.known c.reacted-changed.ensures.reacted c.draw-ticket.ensures in
    let first = still_usable c.args.self.now t _ _ c.requires.locked.holds.usable drawn refl refl in
    let last : c.write.new.token.me.0.due ≡ (c.args.b, r.1) ∷ [] =
    ap (λ (m : Mine). m.0.due) (c.write.ensures.me ∙ ap (λ (m : Mine). (writing c.args.a m.0, m.1)) drawn.me) ∙ second_due c.args.a c.args.b r.0 r.1 c.requires.agents.2 in record {
      usable = still_usable c.args.self.now _ _ _ first c.write.ensures refl refl;
      agent = c.requires.agents.1;
      due = subst (In (c.args.b, r.1)) (sym last) (inl refl);
      only = λ y h. last_only c.args.b r.1 y (subst (In (c.args.b, y)) last h);
    }

pub returns : goal.returns
returns c =
    let t = c.args.token.now in
    let x = c.read-x.result in
    let y = c.read-y.result in
    let r = c.reacted-changed.result in
    let net = ap (λ (k : Setup). k.net.value) c.requires.locked.holds.usable.ours ∙ c.args.self.now.net_is in
    let drawn = pair_drawn c.args.self.now _ c.draw-ticket.result t _ _ c.draw-ticket.new.token c.args.a c.args.b c.read-x.result c.read-y.result r.0 r.1 c.requires.locked c.read-x.ensures.known c.read-y.ensures.known c.reacted-changed.ensures.reacted c.draw-ticket.ensures in
    let read = c.read-y.ensures.known.me ∙ ap (λ (m : Mine). (knowing c.args.b y m.0, m.1)) c.read-x.ensures.known.me in
    let newest = subst (IsNewest c.draw-ticket.result) (ap (λ (m : Mine). m.0) read) c.draw-ticket.ensures.newest in
    let changed : reacts t.me.0.setup.net.value (tuple_of t.me.0.setup.net.value x) (tuple_of t.me.0.setup.net.value y) ≡ r.2 =
    ap (λ (n : NetModel). reacts n (tuple_of n x) (tuple_of n y)) net ∙ sym c.reacted-changed.ensures.changed in record {
      logged = record {
        table = c.write-2.ensures.table ∙ c.write.ensures.table ∙ drawn.table;
        me = c.write-2.ensures.me
            ∙ ap (λ (m : Mine). (writing c.args.b m.0, m.1)) (c.write.ensures.me ∙ ap (λ (m : Mine). (writing c.args.a m.0, m.1)) drawn.me)
            ∙ ap (λ (due : List (ℕ × Word)). (record (pair_made c.draw-ticket.result c.args.a c.args.b x y r.0 r.1 t.me.0) { due = due }, t.me.1)) (none_due c.args.a c.args.b r.0 r.1 c.requires.agents.2)
            ∙ ap (λ (is : Bool). (recorded (logged c.draw-ticket.result c.args.a c.args.b is) t.me.0, t.me.1)) changed;
      };
      newest = record { own = newest.own; taken_in = newest.taken_in; looks = newest.looks };
      moment = search rules;
    }
