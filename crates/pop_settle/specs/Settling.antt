-- When a crowd is settled, and when it is not.
use Rattle.std.specs.Prelude.{◌≡◌, ℕ, ◌*◌, ◌<◌, ◌≤◌, length, All, Some, slice_get}
use Rattle.pop_leaf.specs.LeafModel.{LeafModel}
use Rattle.pop_leaf.specs.NetModel.{NetModel}
use Rattle.cert_base.specs.declared.limits.TheConstants.{LAYER_LIMIT}
use Rattle.cert_base.specs.declared.proof.Proof.{Proof}
use Rattle.cert_base.specs.declared.proof.LeafProof.{LeafProof}
use Rattle.cert_base.specs.ProofBound.{proof_bound}
use Rattle.cert_base.specs.ValidLayers.{ValidLayers}
use Rattle.cert_layers.specs.LayerFaults.{IsWeight}
use Rattle.pop_settle.specs.declared.limits.TheConstants.{TAKE_LIMIT}
use Rattle.pop_settle.specs.declared.fault.SettleFault.{SettleFault}
use Rattle.pop_settle.specs.declared.fault.SettleFault.TheVariants.{Long}

-- each leaf has a proof with valid layers
pub record AreLayersValid (net : NetModel) (proof : Proof) : Type 0 where
  pub one_each : length proof.leaves ≡ length net.leaves
  pub valid : (i : ℕ) (leaf : LeafModel) (part : LeafProof) → slice_get net.leaves i ≡ Some leaf
      → slice_get proof.leaves i ≡ Some part
      → ValidLayers leaf part.layers

-- the layers and their weights are within the limits
abbrev pub AreFewLayers : Proof → Type 0
AreFewLayers proof =
    All (λ part. (length part.layers ≤ LAYER_LIMIT)
    × All (λ layer. All IsWeight layer.weights) part.layers) proof.leaves

pub record HasLayers (net : NetModel) (proof : Proof) : Type 0 where
  pub layers : AreLayersValid net proof
  pub few : AreFewLayers proof

-- the bound of the proof is too great for this many agents
abbrev pub RefusesSettle : Proof → ℕ → SettleFault → Type 0
RefusesSettle proof agents (Long most) = (most ≡ proof_bound proof * agents) × (TAKE_LIMIT < most)
