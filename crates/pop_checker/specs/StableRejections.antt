-- Rejections: the first part of a proof with goals that is not valid.
use Rattle.std.specs.Prelude.{◌≡◌, ℕ, Bool, true, false, length, Some, slice_get}
use Rattle.pres_ast.specs.PredModel.{PredModel}
use Rattle.pop_leaf.specs.LeafModel.{LeafModel}
use Rattle.pop_leaf.specs.NetModel.{NetModel}
use Rattle.cert_base.specs.declared.proof.Goal.{Goal as LeafGoal}
use Rattle.cert_base.specs.declared.stable.LeafGoals.{LeafGoals}
use Rattle.cert_base.specs.declared.stable.StablePart.{StablePart}
use Rattle.cert_base.specs.declared.stable.StablePart.TheVariants.{Silent, Stable}
use Rattle.cert_base.specs.declared.stable.StableProof.{StableProof}
use Rattle.cert_base.specs.ValidProof.{CombinesTo}
use Rattle.cert_goals.specs.ValidGoal.{ValidGoal, IsGoalFault}
use Rattle.pop_checker.specs.declared.fault.Rejected.TheVariants.{Layers, Tree, Predicate}
use Rattle.pop_checker.specs.Parts.{IsPartFault}
use Rattle.pop_checker.specs.declared.stable_fault.StableRejected.{StableRejected}
use Rattle.pop_checker.specs.declared.stable_fault.StableRejected.TheVariants.{Plain, Goal}
use Rattle.pop_checker.specs.ValidStable.{ArePartsValidBefore, predicates_alone}

-- a goal of the leaf with this number is rejected
abbrev pub IsGoalRejected : LeafModel → PredModel → Bool → LeafGoal → ℕ → StableRejected → Type 0
IsGoalRejected leaf p value goal number (Plain rejected) = ⊥
IsGoalRejected leaf p value goal number (Goal i v why) =
    (i ≡ number) × (v ≡ value) × IsGoalFault leaf p value goal why

-- the first of both: the one for true comes first
abbrev pub AreGoalsRejected : LeafModel → LeafGoals → ℕ → StableRejected → Type 0
AreGoalsRejected leaf goals number (Plain rejected) = ⊥
AreGoalsRejected leaf goals number (Goal i true why) =
    (i ≡ number) × IsGoalFault leaf goals.pred true goals.on_true why
AreGoalsRejected leaf goals number (Goal i false why) =
    (i ≡ number) × ValidGoal leaf goals.pred true goals.on_true × IsGoalFault leaf goals.pred false goals.on_false why

-- the part of the leaf with this number is rejected
abbrev pub IsPartRejected : LeafModel → StablePart → ℕ → StableRejected → Type 0
IsPartRejected leaf (Silent part) number (Plain rejected) = IsPartFault leaf part number rejected
IsPartRejected leaf (Silent part) number (Goal i v why) = ⊥
IsPartRejected leaf (Stable goals) number rejected = AreGoalsRejected leaf goals number rejected

-- leaf i and its part are the first that are rejected
pub record IsFirstPart (net : NetModel) (proof : StableProof) (i : ℕ) (rejected : StableRejected) : Type 0 where
  pub before : ArePartsValidBefore net proof.leaves i
  pub leaf : LeafModel
  pub part : StablePart
  pub leaf_is : slice_get net.leaves i ≡ Some leaf
  pub part_is : slice_get proof.leaves i ≡ Some part
  pub rejected_is : IsPartRejected leaf part i rejected

-- the first part that is not valid: leaf by leaf, and last the predicate
abbrev pub IsStableRejected : NetModel → PredModel → StableProof → StableRejected → Type 0
IsStableRejected net p proof (Plain (Layers i why)) = IsFirstPart net proof i (Plain (Layers i why))
IsStableRejected net p proof (Plain (Tree i value node why)) = IsFirstPart net proof i (Plain (Tree i value node why))
IsStableRejected net p proof (Plain Predicate) =
    ArePartsValidBefore net proof.leaves (length net.leaves) × ¬ (CombinesTo net (predicates_alone proof) p)
IsStableRejected net p proof (Goal i value why) = IsFirstPart net proof i (Goal i value why)
