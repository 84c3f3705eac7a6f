-- The bound of layers is small, and the bounds of parts add up.
use Rattle.std.proofs.Common.{◌≡◌, ℕ, ◌+◌, ◌*◌, ◌<◌, ◌≤◌, ◌^◌, List, [], ◌∷◌, length, get_or, drop, ap, sym, arith}
use Rattle.std.specs.Prelude.{ℤ, All, sum_by}
use Rattle.std.proofs.lemmas.List.Elements.{All-head, All-tail}
use Rattle.std.proofs.lemmas.List.Sums.{sum_by-cons, sum_by-drop_more}
use Rattle.cert_base.specs.declared.layer.Layer.{Layer}
use Rattle.cert_base.specs.ProofBound.{weights_spread, layers_bound}
use Rattle.cert_layers.specs.LayerFaults.{IsWeight}
use Rattle.cert_layers.proofs.Small.{spread-small}

spread_at : (weights : List ℤ) → All IsWeight weights → weights_spread weights ≤ 2 ^ 41
spread_at [] small = omega arith
spread_at (w ∷ weights) small = spread-small w weights (All-head IsWeight w weights small) (All-tail IsWeight w weights small)

pub layers_at_most : (layers : List Layer) → All (λ layer. All IsWeight layer.weights) layers → layers_bound layers ≤ length layers * 2 ^ 41
layers_at_most [] within = omega arith
layers_at_most (layer ∷ layers) within =
    let first = spread_at layer.weights (All-head (λ (l : Layer). All IsWeight l.weights) layer layers within) in
    let rest = layers_at_most layers (All-tail (λ (l : Layer). All IsWeight l.weights) layer layers within) in
    let sum = sum_by-cons (λ (l : Layer). weights_spread l.weights) layer layers in
    omega (arith, first, rest, sum)

-- one more part, of whatever kind
pub bound_more : {P : Type 0} (bound_of : P → ℕ) (parts items : List P) (i bound more whole : ℕ) (part : P) → items ≡ parts → i < length items → part ≡ get_or items i part → more ≡ bound_of part → bound + sum_by bound_of (drop i parts) ≡ whole → bound + more + sum_by bound_of (drop (i + 1) parts) ≡ whole
bound_more bound_of parts items i bound more whole part same l is e so_far =
    let l' : i < length parts = rw same at l in
    let is' : part ≡ get_or parts i part = rw same at is in
    let sum = sum_by-drop_more bound_of parts i part l' in
    let own : bound_of (get_or parts i part) ≡ bound_of part = ap bound_of (sym is') in
    omega (arith, so_far, sum, own, e)
