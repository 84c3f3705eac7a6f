use Rattle.std.proofs.Common.{◌≡◌, map, take}
use Rattle.serde_json.specs.View.{view}
use Rattle.net_json.specs.Written.{number_data}
use Rattle.cert_json.proofs.write_node.states_value.Given as goal

abbrev pub invariant-loop-state : goal.invariant-loop-state
invariant-loop-state l = map view l.list.items ≡ map number_data (take l.state-index l.states)
