-- Changes: how many steps of a run change the crowd.
use Rattle.std.specs.Prelude.{◌≢◌, ℕ, ◌*◌, ◌≤◌, List, length}
use Rattle.pop_leaf.specs.NetModel.{NetModel, CrowdModel, number_of_helpers}
use Rattle.pop_leaf.specs.InputCrowd.{IsInput, input_crowd}
use Rattle.pop_leaf.specs.Step.{Step}
use Rattle.pop_leaf.specs.Reachable.{Leads}
use Rattle.pop_crowd.specs.declared.crowd.Meeting.{Meeting}
use Rattle.pop_crowd.specs.Replay.{change_count, AreMeetings}

-- a step that leads to another crowd
abbrev pub ChangingStep : NetModel → CrowdModel → CrowdModel → Type 0
ChangingStep net before after = Step net before after × (after ≢ before)

-- in every run from an input at most k steps per agent change the crowd
pub record ChangesAtMost (net : NetModel) (k : ℕ) : Type 0 where
  -- of the run's crowds, those that are the same as the one before are left out
  pub steps : (counts : List ℕ) (path : List CrowdModel) (end : CrowdModel)
      → IsInput (length net.variables) (number_of_helpers net) counts
      → Leads (ChangingStep net) (input_crowd net counts) path end → length path ≤ k * length (input_crowd net counts)
  -- so of the meetings of a run
  pub meetings : (counts : List ℕ) (meetings : List Meeting)
      → IsInput (length net.variables) (number_of_helpers net) counts
      → AreMeetings (length (input_crowd net counts)) meetings
      → change_count net meetings (input_crowd net counts) ≤ k * length (input_crowd net counts)
