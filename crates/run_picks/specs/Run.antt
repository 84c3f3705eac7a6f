-- Run: rounds of meetings by workers who each make their picks, up to a crowd in which a net rests or to the last turn.
use Rattle.std.specs.Prelude.{◌≡◌, ◌⊎◌, ℕ, ◌+◌, ◌-◌, ◌*◌, ◌<◌, ◌≤◌, min, ◌==◌, List, length, map, filter, take, All}
use Rattle.std.specs.Prelude.{flat_map, Some, slice_get}
use Rattle.pop_leaf.specs.NetModel.{NetModel, CrowdModel}
use Rattle.pop_leaf.specs.Step.{Step}
use Rattle.pop_leaf.specs.Terminal.{IsTerminal}
use Rattle.pop_crowd.specs.declared.crowd.Meeting.{Meeting}
use Rattle.pop_crowd.specs.Replay.{replay, AreMarked}
use Rattle.run_spec.specs.declared.spec.RunSpec.{RunSpec}
use Rattle.run_picks.specs.declared.alone.TheConstants.{ROUND_TURNS}
use Rattle.run_picks.specs.Picks.{picks}

-- the meetings of worker w, in order
abbrev pub meetings_of : ℕ → List Meeting → List Meeting
meetings_of w meetings = filter (λ m. m.worker == w) meetings

-- how many meetings a worker has made
abbrev pub made_by : ℕ → List Meeting → ℕ
made_by w meetings = length (meetings_of w meetings)

abbrev pub pairs : List Meeting → List (ℕ × ℕ)
pairs meetings = map (λ m. (m.a, m.b)) meetings

-- all rounds in order
abbrev pub joined : List (List Meeting) → List Meeting
joined rounds = flat_map (λ meetings. meetings) rounds

-- how many meetings each worker makes in round k, counted from 1
abbrev pub turns_in : RunSpec → ℕ → ℕ
turns_in spec k = min ROUND_TURNS (spec.turns - ROUND_TURNS * (k - 1))

-- round k: each worker makes its turns, at least one, and nobody else makes any
pub record IsRound (spec : RunSpec) (k : ℕ) (meetings : List Meeting) : Type 0 where
  pub some_turn : 1 ≤ turns_in spec k
  pub each_worker : (w : ℕ) → w < spec.workers → made_by w meetings ≡ turns_in spec k
  pub nobody_else : All (λ m. m.worker < spec.workers) meetings

-- a run by the meetings of net, which is over once the crowd is terminal in rest
pub record IsRunUntil (rest net : NetModel) (start : CrowdModel) (spec : RunSpec) (rounds : List (List Meeting))
    (end : CrowdModel) : Type 0 where
  pub each_round : (k : ℕ) (meetings : List Meeting) → slice_get rounds k ≡ Some meetings
      → IsRound spec (k + 1) meetings
  -- the meetings of a worker are its picks, from the first on
  pub picked : (w : ℕ) → w < spec.workers
      → pairs (meetings_of w (joined rounds)) ≡ picks spec.seed w (length start) (made_by w (joined rounds))
  -- each meeting correctly says whether it changes a tuple
  pub marked : AreMarked net (joined rounds) start
  pub replays : replay net (joined rounds) start ≡ end
  -- no crowd before a round is terminal in rest
  pub goes_on : (k : ℕ) → k < length rounds → IsTerminal (Step rest) (replay net (joined (take k rounds)) start) → ⊥
  -- the end is terminal in rest, or the turns are spent
  pub over : IsTerminal (Step rest) end ⊎ (spec.turns ≤ ROUND_TURNS * length rounds)

-- a run up to a terminal crowd
abbrev pub IsRun : NetModel → CrowdModel → RunSpec → List (List Meeting) → CrowdModel → Type 0
IsRun net start spec rounds end = IsRunUntil net net start spec rounds end
