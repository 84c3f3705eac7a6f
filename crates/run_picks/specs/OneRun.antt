-- A run by one worker is the only one.
use Rattle.std.specs.Prelude.{◌≡◌, List}
use Rattle.pop_leaf.specs.NetModel.{NetModel, CrowdModel}
use Rattle.pop_net.specs.Lanes.{crowd_of}
use Rattle.pop_net.specs.declared.net.Word.{Word}
use Rattle.pop_crowd.specs.declared.crowd.Meeting.{Meeting}
use Rattle.run_spec.specs.declared.spec.RunSpec.{RunSpec}
use Rattle.run_picks.specs.declared.alone.RunEnd.{RunEnd}
use Rattle.run_picks.specs.Run.{IsRunUntil}
use Rattle.run_picks.specs.Ends.{IsRunFromUntil}

-- every run from the start until the crowd is terminal in the first net has these rounds and this end
abbrev pub IsOnlyRunUntil : NetModel → NetModel → CrowdModel → RunSpec → List (List Meeting) → CrowdModel → Type 0
IsOnlyRunUntil rest net start spec rounds end =
    (others : List (List Meeting)) (other : CrowdModel) → IsRunUntil rest net start spec others other
    → (others ≡ rounds) × (other ≡ end)

-- the same for runs up to a terminal crowd
abbrev pub IsOnlyRun : NetModel → CrowdModel → RunSpec → List (List Meeting) → CrowdModel → Type 0
IsOnlyRun net start spec rounds end = IsOnlyRunUntil net net start spec rounds end

-- a run from this crowd until it is terminal in rest, which is the only one
pub record IsOnlyRunFromUntil (rest net : NetModel) (crowd : List Word) (spec : RunSpec) (ran : RunEnd) : Type 0 where
  pub run : IsRunFromUntil rest net crowd spec ran
  pub only : IsOnlyRunUntil rest net (crowd_of net crowd) spec ran.rounds (crowd_of net ran.crowd)

-- such a run up to a terminal crowd
abbrev pub IsOnlyRunFrom : NetModel → List Word → RunSpec → RunEnd → Type 0
IsOnlyRunFrom net crowd spec ran = IsOnlyRunFromUntil net net crowd spec ran
