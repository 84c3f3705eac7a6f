-- ValidStable: a proof in which leaves may have goals shows that a net stably computes a predicate.
use Rattle.std.specs.Prelude.{◌≡◌, ℕ, ◌<◌, true, false, List, [], map, length, sum_by, max, Some, slice_get}
use Rattle.pres_ast.specs.PredModel.{PredModel}
use Rattle.pop_leaf.specs.LeafModel.{LeafModel}
use Rattle.pop_leaf.specs.NetModel.{NetModel}
use Rattle.cert_base.specs.declared.proof.LeafProof.{LeafProof}
use Rattle.cert_base.specs.declared.proof.Proof.{Proof}
use Rattle.cert_base.specs.declared.stable.LeafGoals.{LeafGoals}
use Rattle.cert_base.specs.declared.stable.StablePart.{StablePart}
use Rattle.cert_base.specs.declared.stable.StablePart.TheVariants.{Silent, Stable}
use Rattle.cert_base.specs.declared.stable.StableProof.{StableProof}
use Rattle.cert_base.specs.ProofBound.{layers_bound}
use Rattle.cert_base.specs.StableProof.{pred_of_part}
use Rattle.cert_base.specs.ValidProof.{ValidLeafProof, CombinesTo}
use Rattle.cert_goals.specs.ValidGoal.{ValidGoal}

-- the leaf falls silent by a valid proof, or both its goals are valid
abbrev pub ValidPart : LeafModel → StablePart → Type 0
ValidPart leaf (Silent part) = ValidLeafProof leaf part
ValidPart leaf (Stable goals) =
    ValidGoal leaf goals.pred true goals.on_true × ValidGoal leaf goals.pred false goals.on_false

-- each leaf before leaf n has a valid part
abbrev pub ArePartsValidBefore : NetModel → List StablePart → ℕ → Type 0
ArePartsValidBefore net parts n =
    (i : ℕ) (leaf : LeafModel) (part : StablePart) → i < n → slice_get net.leaves i ≡ Some leaf
    → slice_get parts i ≡ Some part → ValidPart leaf part

-- the bound of a leaf with goals is the greater one of both
abbrev pub goals_bound : LeafGoals → ℕ
goals_bound goals = max (layers_bound goals.on_true.layers) (layers_bound goals.on_false.layers)

abbrev pub part_bound : StablePart → ℕ
part_bound (Silent part) = layers_bound part.layers
part_bound (Stable goals) = goals_bound goals

-- the bound for all leaves
abbrev pub stable_bound : StableProof → ℕ
stable_bound proof = sum_by part_bound proof.leaves

-- the predicates of a proof's leaves, in a proof that has nothing else
abbrev pub predicate_alone : StablePart → LeafProof
predicate_alone part = record { pred = pred_of_part part; layers = []; on_true = []; on_false = [] }

abbrev pub predicates_alone : StableProof → Proof
predicates_alone proof = record { leaves = map predicate_alone proof.leaves }

pub record ValidStableProof (net : NetModel) (p : PredModel) (proof : StableProof) : Type 0 where
  pub one_each : length proof.leaves ≡ length net.leaves
  pub leaves : (i : ℕ) (leaf : LeafModel) (part : StablePart) → slice_get net.leaves i ≡ Some leaf
      → slice_get proof.leaves i ≡ Some part → ValidPart leaf part
  -- the net combines the leaves' predicates into this one
  pub combination : CombinesTo net (predicates_alone proof) p
