use Rattle.std.proofs.Common.{◌≡◌, map, take}
use Rattle.serde_json.specs.View.{view}
use Rattle.serde_json.specs.Data.{boolean}
use Rattle.net_json.proofs.write.outputs_value.Given as goal

abbrev pub invariant-loop-state : goal.invariant-loop-state
invariant-loop-state l = map view l.list.items ≡ map boolean (take l.state l.leaf.outputs)
