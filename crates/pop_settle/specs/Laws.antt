-- Laws of settlements.
use Rattle.std.specs.Prelude.{◌≡◌, ℕ, ◌*◌, ◌≤◌, List, length, All}
use Rattle.pop_leaf.specs.NetModel.{NetModel, CrowdModel, IsNet, IsTuple, HasStates}
use Rattle.pop_leaf.specs.Step.{Step}
use Rattle.pop_leaf.specs.Terminal.{IsTerminal}
use Rattle.cert_base.specs.declared.proof.Proof.{Proof}
use Rattle.cert_base.specs.ProofBound.{proof_bound}
use Rattle.pop_settle.specs.declared.take.Take.{Take}
use Rattle.pop_settle.specs.Settlement.{CanTake, crowd_after_take, LeadsBy, IsSettlement}
use Rattle.pop_settle.specs.Settling.{AreLayersValid}

-- each agent has one state of each leaf
abbrev pub IsCrowd : NetModel → CrowdModel → Type 0
IsCrowd net crowd = All (IsTuple net) crowd × All (HasStates net) crowd

-- a take is a step of the model
abbrev pub AreSteps : Type 0
AreSteps =
    (net : NetModel) (proof : Proof) (crowd : CrowdModel) (layer place : ℕ) (take : Take) → All (IsTuple net) crowd
    → (can : CanTake net proof crowd layer place take)
    → Step net crowd (crowd_after_take take.leaf can.move take.a take.b crowd)

-- each settlement of the crowd has these takes and this end
abbrev pub IsOnlySettlement : NetModel → Proof → CrowdModel → List Take → CrowdModel → Type 0
IsOnlySettlement net proof crowd takes end =
    (others : List Take) (last : CrowdModel) → IsSettlement net proof crowd others last
    → (others ≡ takes) × (last ≡ end)

-- there is at most one settlement
abbrev pub AreOne : Type 0
AreOne =
    (net : NetModel) (proof : Proof) (crowd end : CrowdModel) (takes : List Take)
    → IsSettlement net proof crowd takes end
    → IsOnlySettlement net proof crowd takes end

-- it is no longer than the proof's bound for each agent
abbrev pub AreShort : Type 0
AreShort =
    (net : NetModel) (proof : Proof) (crowd end : CrowdModel) (takes : List Take) → IsNet net → AreLayersValid net proof
    → IsCrowd net crowd
    → LeadsBy net proof crowd takes end → length takes ≤ proof_bound proof * length crowd

-- its last crowd is terminal
abbrev pub AreTerminal : Type 0
AreTerminal =
    (net : NetModel) (proof : Proof) (crowd end : CrowdModel) (takes : List Take) → AreLayersValid net proof
    → All (IsTuple net) crowd
    → IsSettlement net proof crowd takes end → IsTerminal (Step net) end

-- what settlements are: steps of the model, one from each crowd, short, and with a terminal end
pub record SettlementsEnd : Type 0 where
  pub steps : AreSteps
  pub one : AreOne
  pub short : AreShort
  pub terminal : AreTerminal
