use Rattle.std.proofs.Common.{◌≡◌, map, take}
use Rattle.serde_json.specs.View.{view}
use Rattle.net_json.specs.Written.{number_data}
use Rattle.net_json.proofs.write.inputs_value.Given as goal

abbrev pub invariant-loop-variable : goal.invariant-loop-variable
invariant-loop-variable l = map view l.list.items ≡ map number_data (take l.variable l.leaf.inputs)
