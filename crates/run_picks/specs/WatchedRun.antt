-- Watched run: a run whose last round may lack meetings if the run is over with it. A run by whole rounds is one too.
use Rattle.std.specs.Prelude.{◌≡◌, ◌⊎◌, ℕ, ◌+◌, ◌<◌, ◌≤◌, List, length, take, All, Some, slice_get}
use Rattle.pop_leaf.specs.NetModel.{NetModel, CrowdModel}
use Rattle.pop_leaf.specs.Step.{Step}
use Rattle.pop_leaf.specs.Terminal.{IsTerminal}
use Rattle.pop_crowd.specs.declared.crowd.Meeting.{Meeting}
use Rattle.pop_crowd.specs.Replay.{replay, AreMarked}
use Rattle.run_spec.specs.declared.spec.RunSpec.{RunSpec}
use Rattle.run_spec.specs.declared.kind.RunKind.{RunKind}
use Rattle.run_spec.specs.declared.kind.RunKind.TheVariants.{Whole, Watched}
use Rattle.run_picks.specs.Picks.{picks}
use Rattle.run_picks.specs.Run.{IsRound, IsRunUntil, meetings_of, made_by, pairs, joined, turns_in}

-- round k, counted from 1: there is a turn to make, each worker makes at most its turns, and nobody else makes any
pub record IsWatchedRound (spec : RunSpec) (k : ℕ) (meetings : List Meeting) : Type 0 where
  pub some_turn : 1 ≤ turns_in spec k
  pub each_worker : (w : ℕ) → w < spec.workers → made_by w meetings ≤ turns_in spec k
  pub nobody_else : All (λ m. m.worker < spec.workers) meetings

-- every worker has made all its turns
abbrev pub AreSpent : RunSpec → List (List Meeting) → Type 0
AreSpent spec rounds = (w : ℕ) → w < spec.workers → made_by w (joined rounds) ≡ spec.turns

-- a watched run by the meetings of net, which is over once the crowd is terminal in rest
pub record IsWatchedRunUntil (rest net : NetModel) (start : CrowdModel) (spec : RunSpec) (rounds : List (List Meeting))
    (end : CrowdModel) : Type 0 where
  pub each_round : (k : ℕ) (meetings : List Meeting) → slice_get rounds k ≡ Some meetings
      → IsWatchedRound spec (k + 1) meetings
  -- every round but the last is whole
  pub whole : (k : ℕ) (meetings : List Meeting) → k + 1 < length rounds → slice_get rounds k ≡ Some meetings
      → IsRound spec (k + 1) meetings
  -- the meetings of a worker are its picks, from the first on
  pub picked : (w : ℕ) → w < spec.workers
      → pairs (meetings_of w (joined rounds)) ≡ picks spec.seed w (length start) (made_by w (joined rounds))
  -- each meeting correctly says whether it changes a tuple
  pub marked : AreMarked net (joined rounds) start
  pub replays : replay net (joined rounds) start ≡ end
  -- no crowd before a round is terminal in rest
  pub goes_on : (k : ℕ) → k < length rounds → IsTerminal (Step rest) (replay net (joined (take k rounds)) start) → ⊥
  -- the end is terminal in rest, or the turns are spent
  pub over : IsTerminal (Step rest) end ⊎ AreSpent spec rounds

-- a run of this kind by the meetings of the second net, which is over once the crowd is terminal in the first
abbrev pub IsRunOfUntil : RunKind → NetModel → NetModel → CrowdModel → RunSpec → List (List Meeting) → CrowdModel
    → Type 0
IsRunOfUntil Whole rest net start spec rounds end = IsRunUntil rest net start spec rounds end
IsRunOfUntil Watched rest net start spec rounds end = IsWatchedRunUntil rest net start spec rounds end

-- a run of this kind up to a terminal crowd
abbrev pub IsRunOf : RunKind → NetModel → CrowdModel → RunSpec → List (List Meeting) → CrowdModel → Type 0
IsRunOf kind net start spec rounds end = IsRunOfUntil kind net net start spec rounds end
