use Rattle.std.proofs.Common.{◌≡◌, ℕ, suc, ◌+◌, ◌<◌, ◌≤◌, Bool, false, List, [], ◌∷◌, ◌++◌, length, map, sym, ap, ◌∙◌, subst, arith, rules}
use Rattle.std.specs.Prelude.{All}
use Rattle.std.proofs.lemmas.List.{length-map}
use Rattle.pop_net.specs.declared.net.Word.{Word}
use Rattle.pop_leaf.specs.NetModel.{NetModel}
use Rattle.pop_net.specs.Lanes.{crowd_of, AreValid}
use Rattle.pop_crowd.specs.declared.crowd.Meeting.{Meeting}
use Rattle.agent_field.specs.Layouts.{Serves}
use Rattle.agent_field.proofs.Lent.{whole_written}
use Rattle.agent_field.specs.Seats.{net_of, opening_of, seats_of, log_of}
use Rattle.pair_workers.specs.declared.work.Worker.{Worker}
use Rattle.run_picks.specs.Turns.{HasPicked, ArePlayed}
use Rattle.pair_workers.specs.Work.{MayWork, AreDone, HasAll, agents_of_field, pairs_of}
use Rattle.pair_workers.proofs.FieldRounds.{front, are_done, all_picked, are_played, as_long}
use Rattle.pair_workers.proofs.round.field_round.Goals as goal

pub work_beside-requires-clause-agents : goal.work_beside-requires-clause-agents
work_beside-requires-clause-agents g c κs within =
    let e = c.in_ok-field.ensures.opened in
    subst (λ (l : List Word). (2 ≤ length l) × (length l ≤ 65536)) (sym e.field.opening_is) e.agents

pub work_beside-requires-clause-may : goal.work_beside-requires-clause-may
work_beside-requires-clause-may g c κs within =
    let e = c.in_ok-field.ensures.opened in
    let r = c.in_ok-reserve.ensures in (
      record {
        ours = (r.field.0 ∙ e.ours.0, r.field.1 ∙ e.ours.1);
        room = r.room;
        log = r.own ∙ e.fresh.0;
      },
      subst (λ (l : List Worker). All (MayWork c.in_ok-field.field c.args.start.turns) l) (sym c.as_mut_slice.ensures.value) (λ k d h. (e.ready.1 k d [] h).may),
    )

pub take_in-requires : goal.take_in-requires
take_in-requires g c =
    let f = c.in_ok-field.field in
    let turns = c.args.start.turns in
    let rest = c.remove-picker.new.self.items in
    let new = c.work_beside.new.others in
    let old = c.in_ok-field.others.items in
    let e = c.in_ok-field.ensures.opened in
    let done = subst (λ (b : Bool). AreDone f turns b rest new) c.new-signals.ensures
    (are_done f turns c.new-signals.result.observed rest old _ new c.as_mut_slice.ensures.value e.ready c.work_beside.auto.others c.work_beside.ensures.others) in
    let list = whole_written c.in_ok-field.others.len new old (done.0 ∙ sym e.ready.0) (omega arith) in
    let first = c.work_beside.new.first in
    let worked = c.work_beside.ensures.first in
    let made = subst (AreDone f turns false rest) (sym list) done in
    let r = c.in_ok-reserve.ensures in
    let next = worked.kept.1 ∙ r.rest.1 ∙ e.dealt in
    record {
      ours = worked.ours;
      number = worked.kept.0 ∙ r.rest.0 ∙ e.first;
      next = next ∙ ap (λ (n : ℕ). n + 1) (sym made.0);
      within = omega (arith, next, e.field.seats_are);
      each = λ i d h. ((made.1 i d [] h).ours, (made.1 i d [] h).numbered);
    }

pub of_words-requires-clause-some : goal.of_words-requires-clause-some
of_words-requires-clause-some g c =
    let e = c.in_ok-field.ensures.opened in
    let f = c.in_ok-field.field in
    let round = c.in_ok-round.round in
    let long = as_long (net_of f) (opening_of f) round.words round.meetings c.in_ok-round.ensures.round.words ∙ ap (length {A = Word}) e.field.opening_is in
    omega (arith, long, e.agents.0)

pub of_words-requires-clause-few : goal.of_words-requires-clause-few
of_words-requires-clause-few g c =
    let e = c.in_ok-field.ensures.opened in
    let f = c.in_ok-field.field in
    let round = c.in_ok-round.round in
    let long = as_long (net_of f) (opening_of f) round.words round.meetings c.in_ok-round.ensures.round.words ∙ ap (length {A = Word}) e.field.opening_is in
    omega (arith, long, e.agents.1)

pub returns-clause-round : goal.returns-clause-round
returns-clause-round g c =
    let f = c.in_ok-field.field in
    let turns = c.args.start.turns in
    let rest = c.remove-picker.new.self.items in
    let new = c.work_beside.new.others in
    let old = c.in_ok-field.others.items in
    let e = c.in_ok-field.ensures.opened in
    let done = subst (λ (b : Bool). AreDone f turns b rest new) c.new-signals.ensures
    (are_done f turns c.new-signals.result.observed rest old _ new c.as_mut_slice.ensures.value e.ready c.work_beside.auto.others c.work_beside.ensures.others) in
    let list = whole_written c.in_ok-field.others.len new old (done.0 ∙ sym e.ready.0) (omega arith) in
    let first = c.work_beside.new.first in
    let worked = c.work_beside.ensures.first in
    let net = c.args.run.now.net.now in
    let pickers = c.args.start.pickers.items in
    let own = c.remove-picker.result in
    let all = subst (λ (l : List Worker). HasAll f l first.seat c.in_ok-whole.whole) list c.in_ok-whole.ensures.all in
    let closed = c.in_ok-round.ensures.round in
    let round = c.in_ok-round.round in
    let some : 0 < length pickers = omega (arith, c.requires.round.pickers, c.args.run.now.limits.workers.0) in
    let split : pickers ≡ own ∷ rest = front pickers rest own some c.remove-picker.ensures.value c.remove-picker.ensures.by_index.2 in
    let many : length rest + 1 ≡ c.args.run.now.spec.now.workers = (let long = ap (length {A = List ℕ}) (sym split) ∙ c.requires.round.pickers in omega (arith, long)) in
    let after : List (List ℕ) = first.picker ∷ map (λ (v : Worker). v.picker) new in
    let moved : c.in_ok-whole.pickers.items ≡ after = c.in_ok-whole.ensures.pickers ∙ (λ i. c.in_ok-push.ensures.items i ++ map (λ (v : Worker). v.picker) (list i)) ∙ search rules in
    let mine : HasPicked (agents_of_field f) turns own first.picker (pairs_of (log_of first.seat)) = subst (λ (n : ℕ). HasPicked (agents_of_field f) n own first.picker (pairs_of (log_of first.seat))) (worked.all c.new-signals.ensures) worked.made.picked in
    let words : round.words ≡ c.of_words.result = sym c.of_words.ensures in
    let meetings : round.meetings ≡ c.into_vec.result.items = sym c.into_vec.ensures in
    let seats : seats_of f ≡ c.args.run.now.spec.now.workers = e.field.seats_are ∙ many in
    let played = are_played (net_of f) (opening_of f) round.words (seats_of f) turns (own ∷ rest) after round.meetings closed.words closed.history
    (λ w d h. all_picked f turns own rest new first c.in_ok-whole.whole round.meetings mine done all closed.own closed.taken w d (omega (arith, h, seats, many))) in
    record {
      played = subst (λ (t : NetModel × List Word × ℕ × List (List ℕ) × List (List ℕ) × List Meeting × List Word). ArePlayed t.0 (crowd_of t.0 t.1) t.2 turns t.3 t.4 t.5 (crowd_of t.0 t.6))
          (λ i. (e.field.net_is i, e.field.opening_is i, seats i, sym split i, sym moved i, meetings i, words i)) played;
      valid = subst (λ (t : NetModel × List Word). AreValid t.0 t.1) (λ i. (e.field.net_is i, words i)) closed.valid;
      agents = ap (length {A = Word}) (sym words) ∙ as_long (net_of f) (opening_of f) round.words round.meetings closed.words ∙ ap (length {A = Word}) e.field.opening_is;
      pickers = ap (length {A = List ℕ}) moved ∙ ap suc (length-map new (λ (v : Worker). v.picker) ∙ done.0) ∙ ap (length {A = List ℕ}) (sym split);
    }

pub close_on-requires-clause-serves : goal.close_on-requires-clause-serves
close_on-requires-clause-serves g c =
    let e = c.in_ok-field.ensures in
    subst (λ (t : List Word × ℕ). Serves c.open_round.new.layout t.0 t.1) (λ i. (sym e.opened.field.opening_is i, sym e.opened.field.shards_are i)) e.serves

pub returns-clause-serves : goal.returns-clause-serves
returns-clause-serves g c =
    subst (λ (t : List Word × ℕ). Serves c.close_on.new.layout t.0 t.1) (λ i. (sym c.of_words.ensures i, c.in_ok-field.ensures.opened.field.shards_are i)) c.in_ok-round.ensures.serves
