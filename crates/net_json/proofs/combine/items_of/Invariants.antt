use Rattle.std.proofs.Common.{◌≡◌, [], map, drop}
use Rattle.serde_json.specs.View.{view}
use Rattle.base_json.specs.Paths.{path_text}
use Rattle.base_json.specs.Shapes.{each}
use Rattle.net_json.specs.Examined.{combine_item}
use Rattle.net_json.proofs.Items.{Reading}
use Rattle.net_json.proofs.combine.items_of.Given as goal

abbrev pub invariant-loop-i : goal.invariant-loop-i
invariant-loop-i l =
    Reading (each (combine_item (path_text l.path) l.leaves) l.items.items l.i (drop l.i (map view l.item-items)) ≡ each (combine_item (path_text l.path) l.leaves) [] 0 (map view l.item-items)) l.items.items l.trees l.i
