-- TameEach: the layers of each leaf are tame, and what tells that.
use Rattle.std.specs.Prelude.{◌≡◌, ℕ, Some, slice_get}
use Rattle.pop_leaf.specs.LeafModel.{LeafModel}
use Rattle.pop_leaf.specs.NetModel.{NetModel}
use Rattle.cert_base.specs.declared.proof.Proof.{Proof}
use Rattle.cert_base.specs.declared.proof.LeafProof.{LeafProof}
use Rattle.cert_layers.specs.TameWork.{AreTameInTime}
use Rattle.pop_checker.specs.Sound.{HasOneLayerEach}

-- the layers of each leaf are tame, told apart from others by no more work than the limit
abbrev pub AreTameInTimeEach : NetModel → Proof → Type 0
AreTameInTimeEach net proof =
    (i : ℕ) (leaf : LeafModel) (part : LeafProof) → slice_get net.leaves i ≡ Some leaf
    → slice_get proof.leaves i ≡ Some part → AreTameInTime leaf part.layers

-- one layer for each leaf is tame, and that takes no work
abbrev pub OneLayerEachIsTame : Type 0
OneLayerEachIsTame = (net : NetModel) (proof : Proof) → HasOneLayerEach proof → AreTameInTimeEach net proof
