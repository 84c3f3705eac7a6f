use Rattle.std.proofs.Common.{◌≡◌, map, take}
use Rattle.serde_json.specs.View.{view}
use Rattle.net_json.specs.Written.{leaf_data}
use Rattle.net_json.proofs.write.leaves_value.Given as goal

abbrev pub invariant-loop-i : goal.invariant-loop-i
invariant-loop-i l = map view l.list.items ≡ map (leaf_data l.helped) (take l.i l.net.leaves)
