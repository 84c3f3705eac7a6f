use Rattle.std.proofs.Common.{◌≡◌, ℕ, ◌+◌, ◌<◌, ◌≤◌, true, List, [], ◌++◌, length, map, sym, ap, ◌∙◌, subst, arith}
use Rattle.std.specs.Prelude.{All}
use Rattle.std.proofs.lemmas.List.{length-map}
use Rattle.pop_net.specs.declared.net.Word.{Word}
use Rattle.pop_leaf.specs.NetModel.{NetModel}
use Rattle.pop_net.specs.Lanes.{crowd_of, AreValid}
use Rattle.pop_crowd.specs.declared.crowd.Meeting.{Meeting}
use Rattle.agent_field.specs.declared.view.Look.{Look}
use Rattle.agent_field.specs.History.{calls}
use Rattle.agent_field.specs.Layouts.{Serves}
use Rattle.agent_field.proofs.Lent.{whole_written}
use Rattle.agent_field.specs.Seats.{net_of, opening_of, seats_of, log_of}
use Rattle.pair_workers.proofs.FieldRounds.{are_done, as_long}
use Rattle.run_picks.specs.Run.{made_by}
use Rattle.pair_workers.specs.declared.work.Worker.{Worker}
use Rattle.pair_workers.specs.Work.{MayWork, AreDone, HasAll}
use Rattle.pop_watch.specs.Playing.{ArePlaying, of_worker}
use Rattle.pop_watch.proofs.Renumbered.{IsOfWorker, all_of_workers}
use Rattle.pop_watch.proofs.Parts.{are_playing, all_picked, few_made, made_each}
use Rattle.pop_watch.proofs.round.field_round.Goals as goal

pub reserve_looks-requires-clause-limit : goal.reserve_looks-requires-clause-limit
reserve_looks-requires-clause-limit g c = let none = ap (length {A = Look}) c.in_ok-field.ensures.opened.fresh.2 in omega (arith, none)

pub watch_beside-requires-clause-observer : goal.watch_beside-requires-clause-observer
watch_beside-requires-clause-observer g c κs within =
    let e = c.in_ok-field.ensures.opened in
    let r = c.in_ok-reserve_looks.ensures in
    record {
      lanes = c.args.watch.now.lanes;
      field = e.field.net_is;
      agents = subst (λ (l : List Word). (2 ≤ length l) × (length l ≤ 65536)) (sym e.field.opening_is) e.agents;
      ours = r.ours;
      first = r.rest.0 ∙ e.first;
      room = r.room;
      few = c.requires.round.few;
    }

pub watch_beside-requires-clause-workers : goal.watch_beside-requires-clause-workers
watch_beside-requires-clause-workers g c κs within =
    let ready = c.in_ok-field.ensures.opened.ready.1 in
    subst (λ (l : List Worker). All (MayWork c.in_ok-field.field c.args.start.turns) l) (sym c.as_mut_slice-seats.ensures.value) (λ k d h. (ready k d [] h).may)

pub take_in-requires : goal.take_in-requires
take_in-requires g c =
    let e = c.in_ok-field.ensures.opened in
    let f = c.in_ok-field.field in
    let turns = c.args.start.turns in
    let pickers = c.args.start.pickers.items in
    let new = c.watch_beside.new.workers in
    let old = c.in_ok-field.workers.items in
    let done = are_done f turns true pickers old _ new c.as_mut_slice-seats.ensures.value e.ready c.watch_beside.auto.workers c.watch_beside.ensures.workers in
    let list = whole_written c.in_ok-field.workers.len new old (done.0 ∙ sym e.ready.0) (omega arith) in
    let made = subst (AreDone f turns true pickers) (sym list) done in
    let kept = c.watch_beside.ensures.seat.1 in
    let r = c.in_ok-reserve_looks.ensures in
    let next = kept.1 ∙ r.rest.1 ∙ e.dealt in
    record {
      ours = c.watch_beside.ensures.seat.0;
      number = kept.0 ∙ r.rest.0 ∙ e.first;
      next = next ∙ ap (λ (n : ℕ). n + 1) (sym made.0);
      within = omega (arith, next, e.field.seats_are);
      each = λ i d h. ((made.1 i d [] h).ours, (made.1 i d [] h).numbered);
    }

pub turn_to_workers-requires : goal.turn_to_workers-requires
turn_to_workers-requires g c =
    let own : calls 0 c.in_ok-round.round.meetings ≡ [] = c.in_ok-round.ensures.round.own ∙ c.in_ok-whole.ensures.all.own ∙ c.watch_beside.ensures.seat.1.4 ∙ (c.in_ok-reserve_looks.ensures.rest.4 ∙ c.in_ok-field.ensures.opened.fresh.0) in
    subst (λ (l : List Meeting). All IsOfWorker l) (sym (c.as_mut_slice.ensures.value ∙ c.into_vec-meetings.ensures)) (all_of_workers 0 c.in_ok-round.round.meetings own)

pub of_words-crowd-requires-clause-some : goal.of_words-crowd-requires-clause-some
of_words-crowd-requires-clause-some g c =
    let e = c.in_ok-field.ensures.opened in
    let long = as_long (net_of c.in_ok-field.field) (opening_of c.in_ok-field.field) c.in_ok-round.round.words c.in_ok-round.round.meetings c.in_ok-round.ensures.round.words ∙ ap (length {A = Word}) e.field.opening_is in
    omega (arith, long, e.agents.0)

pub of_words-crowd-requires-clause-few : goal.of_words-crowd-requires-clause-few
of_words-crowd-requires-clause-few g c =
    let e = c.in_ok-field.ensures.opened in
    let long = as_long (net_of c.in_ok-field.field) (opening_of c.in_ok-field.field) c.in_ok-round.round.words c.in_ok-round.round.meetings c.in_ok-round.ensures.round.words ∙ ap (length {A = Word}) e.field.opening_is in
    omega (arith, long, e.agents.1)

pub returns-clause-made : goal.returns-clause-made
returns-clause-made g c =
    let f = c.in_ok-field.field in
    let turns = c.args.start.turns in
    let pickers = c.args.start.pickers.items in
    let new = c.watch_beside.new.workers in
    let old = c.in_ok-field.workers.items in
    let ready = c.in_ok-field.ensures.opened.ready in
    let done = are_done f turns true pickers old _ new c.as_mut_slice-seats.ensures.value ready c.watch_beside.auto.workers c.watch_beside.ensures.workers in
    let list = whole_written c.in_ok-field.workers.len new old (done.0 ∙ sym ready.0) (omega arith) in
    let all = subst (λ (l : List Worker). HasAll f l c.watch_beside.new.seat c.in_ok-whole.whole) list c.in_ok-whole.ensures.all in
    let closed = c.in_ok-round.ensures.round in
    let meetings = c.in_ok-round.round.meetings in
    let own : calls 0 meetings ≡ [] = closed.own ∙ all.own ∙ c.watch_beside.ensures.seat.1.4 ∙ (c.in_ok-reserve_looks.ensures.rest.4 ∙ c.in_ok-field.ensures.opened.fresh.0) in
    let some = all_of_workers 0 meetings own in
    let turned : c.turn_to_workers.new.meetings ≡ map of_worker c.into_vec-meetings.result.items = c.turn_to_workers.ensures ∙ ap (map of_worker) c.as_mut_slice.ensures.value in
    let long : length c.turn_to_workers.new.meetings ≡ length c.into_vec-meetings.result.items = ap (length {A = Meeting}) turned ∙ length-map c.into_vec-meetings.result.items of_worker in
    let mine = whole_written c.into_vec-meetings.result.len c.turn_to_workers.new.meetings c.into_vec-meetings.result.items long (omega arith) ∙ turned ∙ ap (map of_worker) c.into_vec-meetings.ensures in
    let any : Worker = record { seat = c.watch_beside.new.seat; picker = [] } in
    let made : c.in_ok-made.made.items ≡ map (λ (v : Worker). length (log_of v.seat)) new = c.in_ok-made.ensures ∙ ap (map (λ (v : Worker). length (log_of v.seat))) (c.as_slice.ensures.value ∙ list) in (
      ap (length {A = ℕ}) made ∙ length-map new (λ (v : Worker). length (log_of v.seat)) ∙ done.0 ∙ c.requires.round.pickers,
      λ w d l.
          made_each f turns pickers new c.watch_beside.new.seat c.in_ok-whole.whole meetings done all closed.taken some c.in_ok-made.made.items made w d any (omega (arith, l, done.0, c.requires.round.pickers))
          ∙ ap (made_by w) (sym mine),
    )

pub returns-clause-part : goal.returns-clause-part
returns-clause-part g c =
    let net = c.args.watch.now.run.now.net.now in
    let workers = c.args.watch.now.run.now.spec.now.workers in
    let is = c.in_ok-field.ensures.opened.field in
    let f = c.in_ok-field.field in
    let turns = c.args.start.turns in
    let pickers = c.args.start.pickers.items in
    let new = c.watch_beside.new.workers in
    let old = c.in_ok-field.workers.items in
    let ready = c.in_ok-field.ensures.opened.ready in
    let done = are_done f turns true pickers old _ new c.as_mut_slice-seats.ensures.value ready c.watch_beside.auto.workers c.watch_beside.ensures.workers in
    let list = whole_written c.in_ok-field.workers.len new old (done.0 ∙ sym ready.0) (omega arith) in
    let all = subst (λ (l : List Worker). HasAll f l c.watch_beside.new.seat c.in_ok-whole.whole) list c.in_ok-whole.ensures.all in
    let closed = c.in_ok-round.ensures.round in
    let meetings = c.in_ok-round.round.meetings in
    let own : calls 0 meetings ≡ [] = closed.own ∙ all.own ∙ c.watch_beside.ensures.seat.1.4 ∙ (c.in_ok-reserve_looks.ensures.rest.4 ∙ c.in_ok-field.ensures.opened.fresh.0) in
    let some = all_of_workers 0 meetings own in
    let turned : c.turn_to_workers.new.meetings ≡ map of_worker c.into_vec-meetings.result.items = c.turn_to_workers.ensures ∙ ap (map of_worker) c.as_mut_slice.ensures.value in
    let long : length c.turn_to_workers.new.meetings ≡ length c.into_vec-meetings.result.items = ap (length {A = Meeting}) turned ∙ length-map c.into_vec-meetings.result.items of_worker in
    let mine = whole_written c.into_vec-meetings.result.len c.turn_to_workers.new.meetings c.into_vec-meetings.result.items long (omega arith) ∙ turned ∙ ap (map of_worker) c.into_vec-meetings.ensures in
    let any : Worker = record { seat = c.watch_beside.new.seat; picker = [] } in
    let after = c.in_ok-whole.pickers.items in
    let moved : after ≡ map (λ (v : Worker). v.picker) new = c.in_ok-whole.ensures.pickers ∙ (λ i. c.new.ensures.items i ++ map (λ (v : Worker). v.picker) (list i)) in
    let words = c.in_ok-round.round.words in
    let crowd : words ≡ c.of_words-crowd.result = sym c.of_words-crowd.ensures in
    let long = as_long (net_of f) (opening_of f) words meetings closed.words ∙ ap (length {A = Word}) is.opening_is in
    let within : (w : ℕ) → w < workers → w < length new = (λ w l. omega (arith, l, done.0, c.requires.round.pickers)) in
    let playing = are_playing (net_of f) (opening_of f) words workers (seats_of f) pickers after meetings closed.words closed.history (is.seats_are ∙ ap (λ (n : ℕ). n + 1) c.requires.round.pickers) some
    (λ w d l. all_picked f turns pickers new c.watch_beside.new.seat c.in_ok-whole.whole meetings done all closed.taken some after moved w d any (within w l)) in
    record {
      played =
          subst (λ (t : NetModel × List Word × List Meeting × List Word). ArePlaying t.0 (crowd_of t.0 t.1) workers pickers after t.2 (crowd_of t.0 t.3)) (λ i. (is.net_is i, is.opening_is i, sym mine i, crowd i))
          playing;
      few = λ w l. subst (λ (ms : List Meeting). made_by w ms ≤ turns) (sym mine) (few_made f turns pickers new c.watch_beside.new.seat c.in_ok-whole.whole meetings done all closed.taken some w any (within w l));
      valid = subst (λ (t : NetModel × List Word). AreValid t.0 t.1) (λ i. (is.net_is i, crowd i)) closed.valid;
      agents = ap (length {A = Word}) (sym crowd) ∙ long;
      pickers = ap (length {A = List ℕ}) moved ∙ length-map new (λ (v : Worker). v.picker) ∙ done.0 ∙ c.requires.round.pickers;
    }

pub close_on-requires-clause-serves : goal.close_on-requires-clause-serves
close_on-requires-clause-serves g c =
    let e = c.in_ok-field.ensures in
    subst (λ (t : List Word × ℕ). Serves c.open_round.new.layout t.0 t.1) (λ i. (sym e.opened.field.opening_is i, sym e.opened.field.shards_are i)) e.serves

pub returns-clause-serves : goal.returns-clause-serves
returns-clause-serves g c =
    subst (λ (t : List Word × ℕ). Serves c.close_on.new.layout t.0 t.1) (λ i. (sym c.of_words-crowd.ensures i, c.in_ok-field.ensures.opened.field.shards_are i)) c.in_ok-round.ensures.serves
