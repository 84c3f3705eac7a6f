-- The turns of many workers in one round.
use Rattle.std.specs.Prelude.{◌≡◌, ℕ, ◌+◌, ◌<◌, ◌≤◌, List, ◌++◌, length, All, slice_index_or}
use Rattle.pop_leaf.specs.NetModel.{NetModel, CrowdModel}
use Rattle.pop_crowd.specs.declared.crowd.Meeting.{Meeting}
use Rattle.pop_crowd.specs.Replay.{replay, AreMarked}
use Rattle.run_picks.specs.Picks.{picks_from, words_from}
use Rattle.run_picks.specs.Run.{meetings_of, pairs}

-- these are the next picks among n agents from the first state on, as many as the turns, and the second state is the
-- one after them
pub record HasPicked (n turns : ℕ) (before after : List ℕ) (made : List (ℕ × ℕ)) : Type 0 where
  pub long : length made ≡ turns
  pub picked : (count : ℕ) → picks_from (words_from before) n (turns + count) ≡ made
      ++ picks_from (words_from after) n count

-- the meetings lead from one crowd to the other, each worker makes its next picks, and nobody else meets
pub record ArePlayed (net : NetModel) (start : CrowdModel) (workers turns : ℕ) (before after : List (List ℕ))
    (meetings : List Meeting)
    (end : CrowdModel) : Type 0 where
  pub marked : AreMarked net meetings start
  pub replays : replay net meetings start ≡ end
  pub picked : (w : ℕ) (d : List ℕ) → w < workers
      → HasPicked (length start) turns (slice_index_or before w d) (slice_index_or after w d)
      (pairs (meetings_of w meetings))
  pub nobody_else : All (λ m. m.worker < workers) meetings
