use Rattle.std.proofs.Common.{◌≡◌, map, take}
use Rattle.serde_json.specs.View.{view}
use Rattle.cert_json.specs.Written.{layer_data}
use Rattle.cert_json.proofs.write.layers_value.Given as goal

abbrev pub invariant-loop-layer : goal.invariant-loop-layer
invariant-loop-layer l = map view l.list.items ≡ map layer_data (take l.layer-index l.layers)
