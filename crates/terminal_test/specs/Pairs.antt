-- Pairs of agents whose meeting changes a tuple.
use Rattle.std.specs.Prelude.{◌≡◌, ◌≢◌, ◌⊎◌, ℕ, ◌<◌, ◌≤◌, true, false, length, Option, None, Some}
use Rattle.pop_leaf.specs.NetModel.{NetModel, CrowdModel}
use Rattle.pop_leaf.specs.Step.{Step}
use Rattle.pop_crowd.specs.Replay.{changes}

-- the agents a and b, a being the lower one, change when they meet
pub record IsEnabled (net : NetModel) (crowd : CrowdModel) (a b : ℕ) : Type 0 where
  pub lower : a < b
  pub within : b < length crowd
  pub changed : changes net a b crowd ≡ true

-- such a pair, and none comes before it, by a and then by b
pub record IsLeastPair (net : NetModel) (crowd : CrowdModel) (a b : ℕ) : Type 0 where
  pub enabled : IsEnabled net crowd a b
  pub least : (c d : ℕ) → IsEnabled net crowd c d → (a < c) ⊎ ((c ≡ a) × (b ≤ d))

-- a step of the model leads to another crowd
abbrev pub MovesOn : NetModel → CrowdModel → Type 0
MovesOn net crowd = (next : CrowdModel) × Step net crowd next × (next ≢ crowd)

-- the first agent after a that changes when it meets a, if there is one
abbrev pub IsPartner : NetModel → CrowdModel → ℕ → Option ℕ → Type 0
IsPartner net crowd a None = (b : ℕ) → a < b → b < length crowd → changes net a b crowd ≡ false
IsPartner net crowd a (Some b) =
    IsEnabled net crowd a b × ((d : ℕ) → a < d → d < b → changes net a d crowd ≡ false)
