-- Laws: a net whose leaves have tame layers settles soon.
use Rattle.std.specs.Prelude.{◌≡◌, ℕ, List, length, Some, slice_get}
use Rattle.pres_ast.specs.PredTree.{PredTree}
use Rattle.pop_leaf.specs.LeafModel.{LeafModel}
use Rattle.pop_leaf.specs.NetModel.{NetModel, CrowdModel, IsNet, number_of_helpers}
use Rattle.pop_leaf.specs.InputCrowd.{IsInput, input_crowd}
use Rattle.pop_leaf.specs.Step.{Step}
use Rattle.pop_leaf.specs.Reachable.{Reachable}
use Rattle.cert_base.specs.declared.layer.Layer.{Layer}
use Rattle.cert_base.specs.declared.proof.LeafProof.{LeafProof}
use Rattle.cert_base.specs.declared.proof.Proof.{Proof}
use Rattle.cert_base.specs.ProofBound.{proof_bound}
use Rattle.cert_base.specs.ValidLayers.{ValidLayers}
use Rattle.theory_random.specs.ComputesAlmostSurely.{ComputesInCubicTime}
use Rattle.theory_random.specs.Laws.{IsRightIfTerminal}
use Rattle.cert_base.specs.TameLayers.{TameLayers}

-- the layers of a leaf are valid and tame
pub record AreTame (leaf : LeafModel) (part : LeafProof) : Type 0 where
  pub valid : ValidLayers leaf part.layers
  pub tame : TameLayers leaf part.layers

-- those of each leaf are
pub record HasTameLayers (net : NetModel) (proof : Proof) : Type 0 where
  pub one_each : length proof.leaves ≡ length net.leaves
  pub each : (i : ℕ) (leaf : LeafModel) (part : LeafProof) → slice_get net.leaves i ≡ Some leaf
      → slice_get proof.leaves i ≡ Some part
      → AreTame leaf part

-- the layers of each leaf are tame
abbrev pub AreTameEach : NetModel → Proof → Type 0
AreTameEach net proof =
    (i : ℕ) (leaf : LeafModel) (part : LeafProof) → slice_get net.leaves i ≡ Some leaf
    → slice_get proof.leaves i ≡ Some part → TameLayers leaf part.layers

-- each terminal crowd on the way from an input is right
abbrev pub EndsAreRight : NetModel → PredTree → Type 0
EndsAreRight net tree =
    (counts : List ℕ) (crowd : CrowdModel) → IsInput (length net.variables) (number_of_helpers net) counts
    → Reachable (Step net) (input_crowd net counts) crowd → IsRightIfTerminal net tree counts crowd

abbrev pub TameLayersAreCubic : Type 0
TameLayersAreCubic =
    (net : NetModel) (tree : PredTree) (proof : Proof) → IsNet net → HasTameLayers net proof → EndsAreRight net tree
    → ComputesInCubicTime net tree (proof_bound proof)

-- one layer is tame
abbrev pub OneLayerIsTame : Type 0
OneLayerIsTame = (leaf : LeafModel) (layers : List Layer) → length layers ≡ 1 → TameLayers leaf layers
