-- Resting: the crowds in which no move of the layers that an input chooses is possible.
use Rattle.std.specs.Prelude.{ℕ, List}
use Rattle.pop_leaf.specs.NetModel.{NetModel, CrowdModel}
use Rattle.pop_leaf.specs.Step.{Step}
use Rattle.pop_leaf.specs.Terminal.{IsTerminal}
use Rattle.cert_base.specs.declared.stable.StableProof.{StableProof}
use Rattle.pop_settle.specs.Chosen.{proof_at}
use Rattle.pop_settle.specs.HushedNet.{hushed_net}

-- the net in which the moves of the layers that the counts choose are kept, and all others are silent
abbrev pub resting_net : NetModel → StableProof → List ℕ → NetModel
resting_net net proof counts = hushed_net net (proof_at counts proof)

-- no move of these layers is possible
abbrev pub IsResting : NetModel → StableProof → List ℕ → CrowdModel → Type 0
IsResting net proof counts crowd = IsTerminal (Step (resting_net net proof counts)) crowd
