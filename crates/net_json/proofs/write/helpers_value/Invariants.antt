use Rattle.std.proofs.Common.{◌≡◌, map, take}
use Rattle.serde_json.specs.View.{view}
use Rattle.net_json.specs.Written.{number_data}
use Rattle.net_json.proofs.write.helpers_value.Given as goal

abbrev pub invariant-loop-helper : goal.invariant-loop-helper
invariant-loop-helper l = map view l.list.items ≡ map number_data (take l.helper l.leaf.helpers)
