use Rattle.std.proofs.Common.{◌≡◌, take}
use Rattle.cert_base.specs.ValidLayers.{moves_of_layers}
use Rattle.cert_sets.proofs.listed.listed_moves.Given as goal

abbrev pub invariant-loop-layer : goal.invariant-loop-layer
invariant-loop-layer l = l.moves.items ≡ moves_of_layers (take l.layer-index l.layers)
