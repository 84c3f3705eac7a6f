-- StableProof: the parts of a proof whose leaves may have goals, and how long their lists may be.
use Rattle.std.specs.Prelude.{◌≡◌, ℕ, length, All}
use Rattle.pres_ast.specs.PredModel.{PredModel}
use Rattle.cert_base.specs.declared.stable.LeafGoals.{LeafGoals}
use Rattle.cert_base.specs.declared.stable.StablePart.{StablePart}
use Rattle.cert_base.specs.declared.stable.StablePart.TheVariants.{Silent, Stable}
use Rattle.cert_base.specs.declared.stable.StableProof.{StableProof}
use Rattle.cert_base.specs.ProofLimits.{IsLeafProofWithin, IsGoalWithin}

-- the predicate of a leaf
abbrev pub pred_of_part : StablePart → PredModel
pred_of_part (Silent part) = part.pred
pred_of_part (Stable goals) = goals.pred

-- goals of a leaf over this many variables
pub record AreGoalsWithin (variables : ℕ) (goals : LeafGoals) : Type 0 where
  pub pred : goals.pred.variables ≡ variables
  pub on_true : IsGoalWithin goals.on_true
  pub on_false : IsGoalWithin goals.on_false

abbrev pub IsPartWithin : ℕ → StablePart → Type 0
IsPartWithin variables (Silent part) = IsLeafProofWithin variables part
IsPartWithin variables (Stable goals) = AreGoalsWithin variables goals

-- a proof over this many variables for this many leaves
pub record IsStableProofWithin (variables leaves : ℕ) (proof : StableProof) : Type 0 where
  pub one_each : length proof.leaves ≡ leaves
  pub parts : All (IsPartWithin variables) proof.leaves
