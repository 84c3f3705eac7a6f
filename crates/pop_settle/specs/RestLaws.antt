-- Laws: what a settlement by the layers that an input chooses leads to.
use Rattle.std.specs.Prelude.{ℕ, ◌≤◌, List, length}
use Rattle.pres_ast.specs.PredModel.{PredModel}
use Rattle.pres_ast.specs.PredicateValue.{predicate_value}
use Rattle.pop_leaf.specs.NetModel.{NetModel, CrowdModel, IsNet, number_of_helpers}
use Rattle.pop_leaf.specs.InputCrowd.{IsInput, input_crowd}
use Rattle.pop_leaf.specs.Step.{Step}
use Rattle.pop_leaf.specs.Reachable.{Reachable}
use Rattle.cert_base.specs.declared.stable.StableProof.{StableProof}
use Rattle.cert_base.specs.ProofBound.{proof_bound}
use Rattle.theory_goals.specs.OutputStable.{IsOutputStable}
use Rattle.pop_checker.specs.ValidStable.{ValidStableProof, stable_bound}
use Rattle.pop_checker.specs.StableSound.{AreStablePreds}
use Rattle.pop_settle.specs.declared.take.Take.{Take}
use Rattle.pop_settle.specs.Settlement.{IsSettlement}
use Rattle.pop_settle.specs.Chosen.{proof_at}
use Rattle.pop_settle.specs.Resting.{IsResting}

-- if the proof is valid for the predicate, and the crowd on the way from the input with these counts: at the end every
-- agent outputs the predicate's value, and does so for ever, whatever happens
abbrev pub EndsRight : NetModel → StableProof → List ℕ → (crowd end : CrowdModel) → Type 0
EndsRight net proof counts crowd end =
    (p : PredModel) → AreStablePreds net proof → ValidStableProof net p proof
    → IsInput (length net.variables) (number_of_helpers net) counts → Reachable (Step net) (input_crowd net counts) crowd
    → IsOutputStable net (predicate_value p.tree counts) end

pub record SettlementsRest : Type 0 where
  pub right : (net : NetModel) (proof : StableProof) (counts : List ℕ) (crowd end : CrowdModel) (takes : List Take)
      → IsNet net → IsSettlement net (proof_at counts proof) crowd takes end → EndsRight net proof counts crowd end
  -- and so in any crowd in which no move of these layers is possible, however the agents came there
  pub rests : (net : NetModel) (proof : StableProof) (counts : List ℕ) (crowd : CrowdModel)
      → IsNet net → IsResting net proof counts crowd → EndsRight net proof counts crowd crowd
  -- the chosen layers allow no more steps for each agent than the whole proof
  pub short : (proof : StableProof) (counts : List ℕ) → proof_bound (proof_at counts proof) ≤ stable_bound proof
