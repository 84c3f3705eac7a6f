use Rattle.std.proofs.Common.{◌≡◌, ℕ, ◌+◌, ◌<◌, ◌==◌, not, false, List, length, get_or, take, refl, sym, ap, ◌∙◌, arith}
use Rattle.std.proofs.lemmas.List.{length-set, length-take-le, take_more}
use Rattle.std.proofs.lemmas.List.Elements.{All-get_or}
use Rattle.std.proofs.lemmas.List.Filters.{length-filter_both}
use Rattle.pop_crowd.specs.declared.crowd.Meeting.{Meeting}
use Rattle.run_picks.specs.Run.{meetings_of}
use Rattle.pop_journal.proofs.ReadBack.{counts_next}
use Rattle.pop_journal.proofs.lacking.made_by_workers.Goals as goal

abbrev blank : Meeting
blank = record { worker = 0; a = 0; b = 0; changed = false }

pub loop-meeting-preserved : goal.loop-meeting-preserved
loop-meeting-preserved c =
    let was = c.loop-meeting.invariant in
    let ms : List Meeting = c.args.meetings.now in
    let i = c.loop-meeting.meeting-index in
    let less : i < length ms = c.loop-meeting-test.true in
    let m : Meeting = get_or ms i blank in
    let old : List ℕ = c.loop-meeting.made.items in
    let below : m.worker < c.args.workers = All-get_or (λ (o : Meeting). o.worker < c.args.workers) ms i blank less c.requires in
    let within : m.worker < length old = omega (arith, was.workers, below) in
    record {
      workers = length-set old m.worker (c.index_mut.result.now + 1) ∙ was.workers;
      counts = λ w d l. counts_next c.args.workers (take i ms) m old c.index_mut.result.now within was.counts c.index_mut.ensures.value w d l
          ∙ ap (λ (xs : List Meeting). length (meetings_of w xs)) (sym (take_more ms i blank less));
    }

pub overflow_add-index_mut : goal.overflow_add-index_mut
overflow_add-index_mut c =
    let was = c.loop-meeting.invariant in
    let ms : List Meeting = c.args.meetings.now in
    let i = c.loop-meeting.meeting-index in
    let less : i < length ms = c.loop-meeting-test.true in
    let m : Meeting = get_or ms i blank in
    let below : m.worker < c.args.workers = All-get_or (λ (o : Meeting). o.worker < c.args.workers) ms i blank less c.requires in
    let count : c.index_mut.result.now ≡ length (meetings_of m.worker (take i ms)) = c.index_mut.ensures.value ∙ was.counts m.worker c.index_mut.result.now below in
    let all = length-filter_both (λ (o : Meeting). o.worker == m.worker) (λ (o : Meeting). not (o.worker == m.worker)) (λ o. refl) (take i ms) in
    omega (arith, count, all, length-take-le i ms, less)
