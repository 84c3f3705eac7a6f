-- A proof whose numbers are those of this net.
use Rattle.std.specs.Prelude.{◌≡◌, ℕ, ◌<◌, List, length, All, Some, slice_get}
use Rattle.pop_leaf.specs.LeafModel.{LeafModel}
use Rattle.pop_leaf.specs.NetModel.{NetModel}
use Rattle.cert_base.specs.declared.layer.Layer.{Layer}
use Rattle.cert_base.specs.declared.proof.Goal.{Goal}
use Rattle.cert_base.specs.declared.stable.StablePart.{StablePart}
use Rattle.cert_base.specs.declared.stable.StablePart.TheVariants.{Silent, Stable}
use Rattle.cert_base.specs.declared.stable.StableProof.{StableProof}
use Rattle.cert_base.specs.StableProof.{pred_of_part}

-- it lists moves of the leaf, and has a weight for each state
pub record IsLayerOf (leaf : LeafModel) (layer : Layer) : Type 0 where
  pub moves : All (λ number. number < length leaf.moves) layer.moves
  pub weights : length layer.weights ≡ length leaf.states

-- it lists states of the leaf
abbrev pub IsSetOf : LeafModel → List ℕ → Type 0
IsSetOf leaf set = All (λ q. q < length leaf.states) set

pub record IsGoalOf (leaf : LeafModel) (goal : Goal) : Type 0 where
  pub layers : All (IsLayerOf leaf) goal.layers
  pub sets : All (IsSetOf leaf) goal.sets

-- the layers, or both goals, are the leaf's
abbrev pub AreOfLeaf : LeafModel → StablePart → Type 0
AreOfLeaf leaf (Silent part) = All (IsLayerOf leaf) part.layers
AreOfLeaf leaf (Stable goals) = IsGoalOf leaf goals.on_true × IsGoalOf leaf goals.on_false

pub record IsPartOf (variables : ℕ) (leaf : LeafModel) (part : StablePart) : Type 0 where
  pub pred : (pred_of_part part).variables ≡ variables
  pub own : AreOfLeaf leaf part

pub record IsProofOf (net : NetModel) (proof : StableProof) : Type 0 where
  pub one_each : length proof.leaves ≡ length net.leaves
  pub parts : (i : ℕ) (leaf : LeafModel) (part : StablePart) → slice_get net.leaves i ≡ Some leaf
      → slice_get proof.leaves i ≡ Some part → IsPartOf (length net.variables) leaf part
