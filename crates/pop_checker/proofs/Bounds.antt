-- The bound of a leaf's layers is small.
use Rattle.std.proofs.Common.{◌≡◌, ℕ, ◌≤◌, ◌^◌, List, length, arith}
use Rattle.std.specs.Prelude.{All}
use Rattle.std.proofs.lemmas.List.Elements.{All-weaker}
use Rattle.cert_base.specs.declared.layer.Layer.{Layer}
use Rattle.cert_base.specs.ProofBound.{layers_bound}
use Rattle.cert_base.specs.ProofLimits.{IsSmall, IsLayerWithin}
use Rattle.cert_layers.proofs.Bounds.{layers_at_most}

pub bound_fits : (layers : List Layer) (bound : ℕ) → bound ≡ layers_bound layers → length layers ≤ 256 → All IsLayerWithin layers → bound ≤ 2 ^ 49
bound_fits layers bound is few within =
    let most = layers_at_most layers (All-weaker IsLayerWithin (λ (l : Layer). All IsSmall l.weights) (λ l small. small.weights) layers within) in
    omega (arith, is, few, most)
