-- Why a watched run ends.
use Rattle.std.specs.Prelude.{◌≡◌, List, length}
use Rattle.pop_leaf.specs.NetModel.{NetModel, CrowdModel}
use Rattle.pop_leaf.specs.Step.{Step}
use Rattle.pop_leaf.specs.Terminal.{IsTerminal}
use Rattle.pop_net.specs.Lanes.{crowd_of, AreValid}
use Rattle.pop_net.specs.declared.net.Word.{Word}
use Rattle.pop_crowd.specs.declared.crowd.Meeting.{Meeting}
use Rattle.terminal_test.specs.Pairs.{IsLeastPair}
use Rattle.run_spec.specs.declared.spec.RunSpec.{RunSpec}
use Rattle.run_picks.specs.declared.alone.End.{End}
use Rattle.run_picks.specs.declared.alone.RunEnd.{RunEnd}
use Rattle.run_picks.specs.declared.alone.End.TheVariants.{Terminal, Open}
use Rattle.run_picks.specs.WatchedRun.{IsWatchedRunUntil, AreSpent}

-- why a run ended in this crowd after these rounds: the crowd is terminal; or the turns are spent and this pair of
-- agents is the least that can change
abbrev pub WatchedEndsBy : NetModel → CrowdModel → RunSpec → List (List Meeting) → End → Type 0
WatchedEndsBy net crowd spec rounds Terminal = IsTerminal (Step net) crowd
WatchedEndsBy net crowd spec rounds (Open a b) =
    IsLeastPair net crowd a b × AreSpent spec rounds × (IsTerminal (Step net) crowd → ⊥)

-- a watched run from this crowd until it is terminal in rest: its rounds, the crowd that they lead to, and why it ended
pub record IsWatchedRunFromUntil (rest net : NetModel) (crowd : List Word) (spec : RunSpec)
    (ran : RunEnd) : Type 0 where
  pub run : IsWatchedRunUntil rest net (crowd_of net crowd) spec ran.rounds (crowd_of net ran.crowd)
  pub ends : WatchedEndsBy rest (crowd_of net ran.crowd) spec ran.rounds ran.end
  pub valid : AreValid net ran.crowd
  pub agents : length ran.crowd ≡ length crowd
