-- The bound of a proof's leaves is small.
use Rattle.std.proofs.Common.{◌≡◌, ℕ, ◌<◌, ◌≤◌, ◌^◌, List, length, get_or, arith}
use Rattle.std.specs.Prelude.{All}
use Rattle.cert_base.specs.declared.proof.LeafProof.{LeafProof}
use Rattle.cert_base.specs.ProofBound.{layers_bound}
use Rattle.cert_layers.specs.LayerFaults.{IsWeight}
use Rattle.cert_layers.proofs.Bounds.{layers_at_most}

pub bound_fits : (parts items : List LeafProof) (i more : ℕ) (part : LeafProof) → items ≡ parts → i < length items → part ≡ get_or items i part → All (λ (p : LeafProof). (length p.layers ≤ 256) × All (λ layer. All IsWeight layer.weights) p.layers) parts → more ≡ layers_bound part.layers → more ≤ 2 ^ 49
bound_fits parts items i more part same l is few e =
    let l' : i < length parts = rw same at l in
    let is' : part ≡ get_or parts i part = rw same at is in
    let here : (length part.layers ≤ 256) × All (λ layer. All IsWeight layer.weights) part.layers = rw is' (few i part l') in
    let most = layers_at_most part.layers here.1 in
    omega (arith, most, here.0, e)
