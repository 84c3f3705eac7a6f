-- A round that is written.
use Rattle.std.specs.Prelude.{◌≡◌, ℕ, List, ◌∷◌, ◌++◌, map}
use Rattle.pop_crowd.specs.declared.crowd.Meeting.{Meeting}
use Rattle.run_text.specs.Journal.{round_line, meeting_line, text_of}
use Rattle.pop_watch.specs.declared.sink.WrittenRounds.{WrittenRounds}

-- the round's lines are added
abbrev pub writes_round : WrittenRounds → ℕ → List Meeting → WrittenRounds → Type 0
writes_round before number meetings after =
    after.text.items ≡ before.text.items ++ text_of (round_line number ∷ map meeting_line meetings)
