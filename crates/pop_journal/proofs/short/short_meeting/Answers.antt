use Rattle.std.proofs.Common.{rules, ◌<◌, ◌^◌, ℕ, sym, subst}
use Rattle.std.specs.Prelude.{Some}
use Rattle.base_lines.specs.Lines.{lines_of}
use Rattle.pop_journal.specs.Form.{Tells}
use Rattle.pop_journal.proofs.FormLaws.{line_of}
use Rattle.pop_journal.proofs.Leading.{short_told}
use Rattle.pop_journal.proofs.short.short_meeting.Goals as goal

pub returns : goal.returns
returns c =
    let lw : c.in_ok-worker.worker < 2 ^ 64 = search rules in
    let la : c.in_ok-first.first < 2 ^ 64 = search rules in
    let lb : c.in_ok-second.second < 2 ^ 64 = search rules in
    let mark = c.in_ok-changed.changed in
    subst (λ (t : ℕ × ℕ × ℕ). Tells (lines_of c.args.text.now) (Some (line_of t.0 t.1 t.2 mark)) (lines_of c.in_ok-changed.rest.now))
    (λ i. (sym c.from.ensures i, sym c.from-2.ensures i, sym c.from-3.ensures i))
    (short_told _ _ _ _ _ _ _ _ _ _ mark c.in_ok-worker.ensures c.in_ok-behind.ensures c.in_ok-first.ensures c.in_ok-behind-2.ensures c.in_ok-second.ensures c.in_ok-changed.ensures lw la lb)
