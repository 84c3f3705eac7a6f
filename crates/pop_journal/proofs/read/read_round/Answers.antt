use Rattle.std.proofs.Common.{◌≡◌, ℕ, ◌+◌, ◌*◌, ◌<◌, ◌∷◌, [], ◌++◌, List, length, get_or, set, ap, sym, subst, ◌∙◌, arith, length-append}
use Rattle.std.proofs.lemmas.List.{length-set}
use Rattle.base_lines.specs.Lines.{lines_of}
use Rattle.pop_crowd.specs.declared.crowd.Meeting.{Meeting}
use Rattle.run_picks.specs.Run.{meetings_of}
use Rattle.pop_journal.specs.Form.{lines_read, settled, wanted}
use Rattle.pop_journal.proofs.ReadBack.{read_told, read_stopped, counts_next}
use Rattle.pop_journal.proofs.read.read_round.Goals as goal

pub lines-preserved : goal.lines-preserved
lines-preserved c =
    let spec = c.args.context.now.spec.now in
    let was = c.lines.invariant in
    let ms : List Meeting = c.lines.meetings.items in
    let m = c.in-Ok.meeting in
    let old : List ℕ = c.lines.made.items in
    let items = c.in_ok-push.ensures.items in
    let longer : length c.push.new.self.items ≡ length ms + 1 = ap (length {A = Meeting}) items ∙ length-append ms (m ∷ []) in
    let within : m.worker < length old = omega (arith, was.workers, c.in-Ok.ensures.worker.0) in
    record {
      workers = length-set old m.worker (c.index_mut.result.now + 1) ∙ was.workers;
      few = omega (arith, longer, c.lines-test.true, c.len.ensures);
      counts = λ w d l. subst (λ (l : List Meeting). get_or (set old m.worker (c.index_mut.result.now + 1)) w d ≡ length (meetings_of w l)) (sym items) (counts_next spec.workers ms m old c.index_mut.result.now within was.counts c.index_mut.ensures.value w d l);
      read = λ rounds e.
          let short : length ms < wanted spec rounds = subst (λ (t : ℕ). length ms < spec.workers * t) e (omega (arith, c.lines-test.true, c.len.ensures, ap (λ (n : ℕ). n * c.args.turns) c.from-workers.ensures)) in
          was.read rounds e
          ∙ read_told c.args.context.now.kind spec c.args.context.now.agents c.args.context.now.limits.workers.0 c.args.context.now.limits.workers.1 (omega arith) (c.args.start.now.number + length ms) rounds ms (settled spec rounds (ms ++ m ∷ [])) c.in-Some.told (lines_of c.lines.rest.now) (lines_of c.in-Some.more.now) c.in-Some.ensures short (sym (c.stops_here.ensures (lines_of c.in-Some.more.now) c.in-Some.ensures) ∙ c.if-stops_here.false) (c.in-Ok.ensures.read rounds ms e (λ w d l. ap (λ (ys : List ℕ). get_or ys w d) c.deref.ensures.value ∙ was.counts w d l))
          ∙ ap (λ (t : ℕ × List Meeting). lines_read c.args.context.now.kind spec c.args.context.now.agents t.0 (settled spec rounds t.1) (lines_of c.in-Some.more.now)) (λ i. ((let n : c.args.start.now.number + length ms + 1 ≡ c.args.start.now.number + length c.push.new.self.items = omega (arith, longer) in n) i, sym items i));
    }

pub returns-then-stops_here-clause-read : goal.returns-then-stops_here-clause-read
returns-then-stops_here-clause-read c rounds e =
    let spec = c.args.context.now.spec.now in
    let ms : List Meeting = c.lines.meetings.items in
    let short : length ms < wanted spec rounds = subst (λ (t : ℕ). length ms < spec.workers * t) e (omega (arith, c.lines-test.true, c.len.ensures, ap (λ (n : ℕ). n * c.args.turns) c.from-workers.ensures)) in
    c.lines.invariant.read rounds e
    ∙ read_stopped c.args.context.now.kind spec c.args.context.now.agents c.args.context.now.limits.workers.0 c.args.context.now.limits.workers.1 (omega arith) (c.args.start.now.number + length ms) rounds ms c.in-Some.told (lines_of c.lines.rest.now) (lines_of c.in-Some.more.now) c.in-Some.ensures short
    (sym (c.stops_here.ensures (lines_of c.in-Some.more.now) c.in-Some.ensures) ∙ c.if-stops_here.true)
