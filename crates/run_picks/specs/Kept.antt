-- Rounds that are kept as a list.
use Rattle.std.specs.Prelude.{◌≡◌, ℕ, List, [], ◌∷◌, ◌++◌}
use Rattle.pop_crowd.specs.declared.crowd.Meeting.{Meeting}
use Rattle.run_picks.specs.declared.alone.KeptRounds.{KeptRounds}

-- the round is put behind those that are kept
abbrev pub keeps_round : KeptRounds → ℕ → List Meeting → KeptRounds → Type 0
keeps_round before number meetings after = after.rounds.items ≡ before.rounds.items ++ meetings ∷ []
