-- A round under way: each worker has made some of its next picks.
use Rattle.std.specs.Prelude.{◌≡◌, ◌⊎◌, ℕ, ◌+◌, ◌-◌, ◌<◌, ◌≤◌, ◌==◌, if◌then◌else◌, List, length, All, slice_index_or}
use Rattle.std.specs.Prelude.{vec_capacity}
use Rattle.pop_leaf.specs.NetModel.{NetModel, CrowdModel}
use Rattle.pop_leaf.specs.Step.{Step}
use Rattle.pop_leaf.specs.Terminal.{IsTerminal}
use Rattle.pop_net.specs.Lanes.{crowd_of, AreValid}
use Rattle.pop_net.specs.declared.net.Word.{Word}
use Rattle.pop_crowd.specs.declared.crowd.Meeting.{Meeting}
use Rattle.pop_crowd.specs.Replay.{replay, AreMarked}
use Rattle.run_picks.specs.Turns.{HasPicked}
use Rattle.run_picks.specs.Run.{meetings_of, made_by, pairs}
use Rattle.pair_workers.specs.declared.round_end.RoundEnd.{RoundEnd}

-- a meeting of a seat as one of its worker: worker w has the seat w + 1
abbrev pub of_worker : Meeting → Meeting
of_worker m = record { worker = m.worker - 1; a = m.a; b = m.b; changed = m.changed }

-- the meetings lead from one crowd to the other, those of each worker are its next picks, and nobody else meets
pub record ArePlaying (net : NetModel) (start : CrowdModel) (workers : ℕ) (before after : List (List ℕ))
    (meetings : List Meeting)
    (end : CrowdModel) : Type 0 where
  pub marked : AreMarked net meetings start
  pub replays : replay net meetings start ≡ end
  pub picked : (w : ℕ) (d : List ℕ) → w < workers
      → HasPicked (length start) (made_by w meetings) (slice_index_or before w d) (slice_index_or after w d)
      (pairs (meetings_of w meetings))
  pub nobody_else : All (λ m. m.worker < workers) meetings

-- the same, with the crowd, the pickers and the meetings in one value
abbrev pub IsPlayedFrom : NetModel → CrowdModel → ℕ → List (List ℕ) → RoundEnd → Type 0
IsPlayedFrom net start workers before p =
    ArePlaying net start workers before p.pickers.items p.meetings.items (crowd_of net p.crowd)

-- what was played from some crowd is still played from it
pub record KeepsPlaying (net : NetModel) (before after : RoundEnd) : Type 0 where
  pub more : (start : CrowdModel) (first : List (List ℕ))
      → IsPlayedFrom net start (length before.pickers.items) first before
      → IsPlayedFrom net start (length before.pickers.items) first after
  pub pickers : length after.pickers.items ≡ length before.pickers.items
  pub agents : length after.crowd ≡ length before.crowd

-- one worker has made so many more meetings, and nobody else has made any
abbrev pub HasMore : ℕ → ℕ → RoundEnd → RoundEnd → Type 0
HasMore worker turns before after =
    (v : ℕ) → made_by v after.meetings.items ≡ made_by v before.meetings.items + (if v == worker then turns else 0)

-- one worker has made so many more meetings, nobody else any, and the list of meetings has allocated nothing
pub record HasPlayedOn (net : NetModel) (worker turns : ℕ) (before after : RoundEnd) : Type 0 where
  pub goes_on : KeepsPlaying net before after
  pub more : HasMore worker turns before after
  pub valid : AreValid net after.crowd
  pub made : length after.meetings.items ≡ length before.meetings.items + turns
  pub room : vec_capacity after.meetings ≡ vec_capacity before.meetings

-- every worker has made its turns
abbrev pub AreAllMade : ℕ → ℕ → List Meeting → Type 0
AreAllMade workers turns meetings = (w : ℕ) → w < workers → made_by w meetings ≡ turns

-- a round from this crowd: each worker has made at most its turns
pub record IsPartOfRound (net : NetModel) (crowd : List Word) (workers turns : ℕ) (before : List (List ℕ))
    (p : RoundEnd) : Type 0 where
  pub played : IsPlayedFrom net (crowd_of net crowd) workers before p
  pub few : (w : ℕ) → w < workers → made_by w p.meetings.items ≤ turns
  pub valid : AreValid net p.crowd
  pub agents : length p.crowd ≡ length crowd
  pub pickers : length p.pickers.items ≡ workers

-- such a round, which is whole or leads to a crowd that is terminal in rest
pub record IsWatchedRoundFrom (rest net : NetModel) (crowd : List Word) (workers turns : ℕ) (before : List (List ℕ))
    (p : RoundEnd) : Type 0 where
  pub part : IsPartOfRound net crowd workers turns before p
  pub ends : AreAllMade workers turns p.meetings.items ⊎ IsTerminal (Step rest) (crowd_of net p.crowd)
