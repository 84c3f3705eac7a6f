-- Why a run ends.
use Rattle.std.specs.Prelude.{◌≡◌, ℕ, ◌*◌, ◌<◌, ◌≤◌, List, length, slice_index_or}
use Rattle.pop_leaf.specs.NetModel.{NetModel, CrowdModel}
use Rattle.pop_leaf.specs.Step.{Step}
use Rattle.pop_leaf.specs.Terminal.{IsTerminal}
use Rattle.pop_net.specs.Lanes.{crowd_of, AreValid}
use Rattle.pop_net.specs.declared.net.Word.{Word}
use Rattle.terminal_test.specs.Pairs.{IsLeastPair}
use Rattle.run_spec.specs.declared.spec.RunSpec.{RunSpec}
use Rattle.run_spec.specs.RunLimits.{IsWithinLimits}
use Rattle.run_picks.specs.declared.alone.TheConstants.{ROUND_TURNS}
use Rattle.run_picks.specs.declared.alone.End.{End}
use Rattle.run_picks.specs.declared.alone.RunEnd.{RunEnd}
use Rattle.run_picks.specs.declared.alone.End.TheVariants.{Terminal, Open}
use Rattle.run_picks.specs.Picks.{first_state}
use Rattle.run_picks.specs.Run.{IsRunUntil}

-- a picker for each worker, none of which has made a pick
pub record AreFirstPickers (spec : RunSpec) (pickers : List (List ℕ)) : Type 0 where
  pub long : length pickers ≡ spec.workers
  pub first : (w : ℕ) (d : List ℕ) → w < spec.workers → slice_index_or pickers w d ≡ first_state spec.seed w

-- a run with these numbers can be made from this crowd
pub record CanMakeRun (net : NetModel) (crowd : List Word) (spec : RunSpec) : Type 0 where
  pub limits : IsWithinLimits spec
  pub valid : AreValid net crowd

-- a further round is made: turns are left, and the crowd is not terminal
abbrev pub RunGoesOn : NetModel → CrowdModel → ℕ → Type 0
RunGoesOn net crowd left = (1 ≤ left) × (IsTerminal (Step net) crowd → ⊥)

-- the crowd is terminal; or it is not, and this pair of agents is the least that can change
abbrev pub IsEndOf : NetModel → CrowdModel → End → Type 0
IsEndOf net crowd Terminal = IsTerminal (Step net) crowd
IsEndOf net crowd (Open a b) = IsLeastPair net crowd a b × (IsTerminal (Step net) crowd → ⊥)

-- why a run ended in this crowd after so many rounds: the crowd is terminal; or the turns are spent and this pair of
-- agents is the least that can change
abbrev pub EndsBy : NetModel → CrowdModel → RunSpec → ℕ → End → Type 0
EndsBy net crowd spec rounds Terminal = IsTerminal (Step net) crowd
EndsBy net crowd spec rounds (Open a b) =
    IsLeastPair net crowd a b × (spec.turns ≤ ROUND_TURNS * rounds) × (IsTerminal (Step net) crowd → ⊥)

-- a run from this crowd until it is terminal in rest: its rounds, the crowd that they lead to, and why it ended
pub record IsRunFromUntil (rest net : NetModel) (crowd : List Word) (spec : RunSpec) (ran : RunEnd) : Type 0 where
  pub run : IsRunUntil rest net (crowd_of net crowd) spec ran.rounds (crowd_of net ran.crowd)
  pub ends : EndsBy rest (crowd_of net ran.crowd) spec (length ran.rounds) ran.end
  pub valid : AreValid net ran.crowd
  pub agents : length ran.crowd ≡ length crowd

-- such a run up to a terminal crowd
abbrev pub IsRunFrom : NetModel → List Word → RunSpec → RunEnd → Type 0
IsRunFrom net crowd spec ran = IsRunFromUntil net net crowd spec ran
