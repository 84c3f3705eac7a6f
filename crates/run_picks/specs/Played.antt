-- Meetings that the worker 0 makes by its picks.
use Rattle.std.specs.Prelude.{◌≡◌, ℕ, ◌+◌, List, ◌++◌, length, All}
use Rattle.rand_core.specs.Stream.{Stream}
use Rattle.pop_leaf.specs.NetModel.{NetModel, CrowdModel}
use Rattle.pop_net.specs.Lanes.{crowd_of, AreValid}
use Rattle.pop_net.specs.declared.net.Word.{Word}
use Rattle.pop_crowd.specs.declared.crowd.Meeting.{Meeting}
use Rattle.pop_crowd.specs.Replay.{replay, AreMarked}
use Rattle.run_picks.specs.Picks.{picks_from, words_from}
use Rattle.run_picks.specs.Run.{pairs}

-- the meetings are the next picks of the worker 0, they lead from one crowd to the other, and these words are left
pub record IsPlayed (net : NetModel) (start : CrowdModel) (words : Stream) (meetings : List Meeting) (end : CrowdModel)
    (left : Stream) : Type 0 where
  pub alone : All (λ m. m.worker ≡ 0) meetings
  pub picked : (count : ℕ) → picks_from words (length start) (length meetings + count) ≡ pairs meetings
      ++ picks_from left (length start) count
  pub marked : AreMarked net meetings start
  pub replays : replay net meetings start ≡ end
  pub agents : length end ≡ length start

-- the same for the words of a crowd and for a picker, before and after
pub record PlaysOn (net : NetModel) (before after : List Word) (picker next : List ℕ)
    (meetings : List Meeting) : Type 0 where
  pub played : IsPlayed net (crowd_of net before) (words_from picker) meetings (crowd_of net after) (words_from next)
  pub valid : AreValid net after
  pub agents : length after ≡ length before
