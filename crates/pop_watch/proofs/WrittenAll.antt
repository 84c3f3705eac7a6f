-- The lines that were added are those of the rounds that were taken.
use Rattle.std.proofs.Common.{◌≡◌, ℕ, ◌+◌, List, [], ◌∷◌, ◌++◌, ap, sym, ◌∙◌, append-nil, append_assoc, map}
use Rattle.std.proofs.lemmas.Grind.{flat_map-append}
use Rattle.base_lines.specs.Lines.{ended}
use Rattle.pop_crowd.specs.declared.crowd.Meeting.{Meeting}
use Rattle.run_picks.specs.TakenRun.{TakesAll}
use Rattle.run_text.specs.Journal.{round_line, meeting_line, round_lines, text_of}
use Rattle.pop_watch.specs.WrittenRound.{writes_round}
use Rattle.pop_watch.specs.declared.sink.WrittenRounds.{WrittenRounds}

pub all_written : (before after : WrittenRounds) (n : ℕ) (rounds : List (List Meeting)) → TakesAll writes_round before n rounds after → after.text.items ≡ before.text.items ++ text_of (round_lines n rounds)
all_written before after n [] taken = ap (λ (w : WrittenRounds). w.text.items) taken ∙ sym (append-nil before.text.items)
all_written before after n (round ∷ rounds) taken =
    let first = round_line n ∷ map meeting_line round in
    all_written taken.0 after (n + 1) rounds taken.2
    ∙ ap (λ (t : List ℕ). t ++ text_of (round_lines (n + 1) rounds)) taken.1
    ∙ append_assoc before.text.items (text_of first) (text_of (round_lines (n + 1) rounds))
    ∙ ap (λ (t : List ℕ). before.text.items ++ t) (sym (flat_map-append ended first (round_lines (n + 1) rounds)))
