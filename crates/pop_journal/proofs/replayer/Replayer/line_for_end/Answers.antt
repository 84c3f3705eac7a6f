use Rattle.std.proofs.Common.{◌≡◌, ℕ, true, List, sym, ap, subst, ◌∙◌}
use Rattle.std.specs.Prelude.{Option, Some}
use Rattle.pop_crowd.specs.Replay.{replay}
use Rattle.run_text.specs.Ending.{ending_until, last_is_undecided}
use Rattle.pop_journal.specs.Expected.{line_at_end}
use Rattle.pop_journal.specs.Standing.{IsForEnd}
use Rattle.pop_journal.proofs.AtEnd.{meeting_due}
use Rattle.pop_journal.proofs.replayer.Replayer.line_for_end.Goals as goal

pub returns-in-Some : goal.returns-in-Some
returns-in-Some c rest outcome start before h is =
    let net = c.args.context.now.net.now in
    let spec = c.args.context.now.journal.now.spec in
    let round = c.args.place.round in
    let open' : last_is_undecided (ending_until rest outcome net (replay net before start)) ≡ true = ap last_is_undecided (sym is) ∙ sym c.is_undecided.ensures ∙ c.if-not-is_undecided.false in
    let due = meeting_due rest outcome net start spec before round c.in-Some.worker c.replay_next-found.result open' (c.replay_next-found.ensures.next start spec before h).0 in
    subst (λ (t : Option ℕ × List ℕ). IsForEnd (line_at_end rest net start spec before round t.0) (Some t.1)) (λ i. (sym c.in-Some.is i, sym c.in_ok-meeting_text.ensures i)) due
