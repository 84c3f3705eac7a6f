use Rattle.std.proofs.Common.{◌≡◌, [], map, drop, vec_len}
use Rattle.serde_json.specs.View.{view}
use Rattle.base_json.specs.Paths.{path_text}
use Rattle.base_json.specs.Shapes.{each, item_by}
use Rattle.base_json.proofs.items.each_of.Given as goal

abbrev pub invariant-loop-i : goal.invariant-loop-i
invariant-loop-i g l = record {
  so_far : each (item_by (g.R.ReadItem.item_at l.reader) (path_text l.path)) l.items.items l.i (drop l.i (map view l.item-items))
      ≡ each (item_by (g.R.ReadItem.item_at l.reader) (path_text l.path)) [] 0 (map view l.item-items);
  count : vec_len l.items ≡ l.i;
}
