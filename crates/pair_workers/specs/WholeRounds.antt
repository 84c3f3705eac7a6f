-- A round that is made from a crowd by many workers.
use Rattle.std.specs.Prelude.{◌≡◌, ℕ, ◌≤◌, List, length}
use Rattle.pop_leaf.specs.NetModel.{NetModel}
use Rattle.pop_net.specs.Lanes.{crowd_of, AreValid}
use Rattle.pop_net.specs.declared.net.Word.{Word}
use Rattle.agent_field.specs.declared.close.Round.{Round}
use Rattle.run_picks.specs.declared.alone.TheConstants.{ROUND_TURNS}
use Rattle.run_picks.specs.Turns.{ArePlayed}
use Rattle.pair_workers.specs.declared.round_end.RoundEnd.{RoundEnd}

-- a round can be made from this crowd: there is a picker for each worker, and no more turns than a round has
pub record CanMakeRound (net : NetModel) (crowd : List Word) (workers turns : ℕ) (before : List (List ℕ)) : Type 0 where
  pub valid : AreValid net crowd
  pub pickers : length before ≡ workers
  pub few : turns ≤ ROUND_TURNS

-- a round from this crowd: each worker makes its turns by its picker, and the pickers move past them
pub record IsRoundFrom (net : NetModel) (crowd : List Word) (workers turns : ℕ) (before after : List (List ℕ))
    (round : Round) : Type 0 where
  pub played : ArePlayed net (crowd_of net crowd) workers turns before after round.meetings (crowd_of net round.words)
  pub valid : AreValid net round.words
  pub agents : length round.words ≡ length crowd
  pub pickers : length after ≡ length before

-- the same, with the crowd, the pickers and the meetings in one value
abbrev pub IsWholeRound : NetModel → List Word → ℕ → ℕ → List (List ℕ) → RoundEnd → Type 0
IsWholeRound net crowd workers turns before p =
    IsRoundFrom net crowd workers turns before p.pickers.items (record { words = p.crowd; meetings = p.meetings.items })
