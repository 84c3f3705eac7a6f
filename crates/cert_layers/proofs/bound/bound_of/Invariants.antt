use Rattle.std.proofs.Common.{◌≡◌, ◌+◌, ◌*◌, ◌≤◌, ◌^◌, drop}
use Rattle.cert_base.specs.ProofBound.{layers_bound}
use Rattle.cert_layers.proofs.bound.bound_of.Given as goal

abbrev pub invariant-loop-layer : goal.invariant-loop-layer
invariant-loop-layer l = record {
  so_far : l.bound + layers_bound (drop l.layer-index l.layers) ≡ layers_bound l.layers;
  small : l.bound ≤ l.layer-index * 2 ^ 41;
}
