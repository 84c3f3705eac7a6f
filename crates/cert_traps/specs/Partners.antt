-- The states that a state can meet.
use Rattle.std.specs.Prelude.{◌≡◌, ℕ, ◌<◌, Bool, false, List, length, slice_index_or}
use Rattle.pop_leaf.specs.LeafModel.{LeafModel}
use Rattle.cert_base.specs.FactsAndCases.{can_meet_in}

-- the table says of each state whether it can meet p
pub record ArePartners (leaf : LeafModel) (p : ℕ) (table : List Bool) : Type 0 where
  pub long : length table ≡ length leaf.states
  pub each : (q : ℕ) → q < length leaf.states → slice_index_or table q false ≡ can_meet_in leaf p q
