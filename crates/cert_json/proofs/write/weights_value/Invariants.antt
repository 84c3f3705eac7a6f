use Rattle.std.proofs.Common.{◌≡◌, map, take}
use Rattle.serde_json.specs.View.{view}
use Rattle.cert_json.specs.Written.{integer_data}
use Rattle.cert_json.proofs.write.weights_value.Given as goal

abbrev pub invariant-loop-weight : goal.invariant-loop-weight
invariant-loop-weight l = map view l.list.items ≡ map integer_data (take l.weight-index l.weights)
