use Rattle.std.proofs.Common.{◌≡◌, map, take}
use Rattle.serde_json.specs.View.{view}
use Rattle.net_json.specs.Written.{move_data}
use Rattle.net_json.proofs.write.moves_value.Given as goal

abbrev pub invariant-loop-t : goal.invariant-loop-t
invariant-loop-t l = map view l.list.items ≡ map move_data (take l.t l.leaf.moves)
