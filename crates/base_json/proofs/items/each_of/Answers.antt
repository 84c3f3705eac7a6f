use Rattle.std.proofs.Common.{[], map, arith}
use Rattle.std.proofs.lemmas.Result.{err_from_is_err_and}
use Rattle.serde_json.specs.View.{view}
use Rattle.base_json.specs.Paths.{path_text}
use Rattle.base_json.specs.Shapes.{each, each_at, item_by}
use Rattle.base_json.proofs.Each.{each-fails, each-goes, each-done}
use Rattle.base_json.proofs.items.each_of.Goals as goal

pub returns-in_err-read-clause-items : goal.returns-in_err-read-clause-items
unfolding each_at
returns-in_err-read-clause-items g c =
    let p = err_from_is_err_and c.from_residual-in_err-read.result c.from_residual-in_err-read.ensures.1 in
    let at = item_by (g.R.ReadItem.item_at c.args.reader.now) (path_text c.args.path.now) in
    rw (p.1, p.2, c.in_ok-list.ensures.list, ← c.deref-item-items.ensures.value)
    (each-fails at c.loop-i.items.items c.deref-item-items.result.now c.loop-i.i c.in_err-read.field-0.0 c.item-item.result (each at [] 0 (map view c.deref-item-items.result.now)) c.loop-i-test.true c.item-item.is
    (rw c.deref.ensures.value at c.in_err-read.ensures) c.loop-i.invariant.so_far)

pub loop-i-preserved : goal.loop-i-preserved
loop-i-preserved g c =
    let at = item_by (g.R.ReadItem.item_at c.args.reader.now) (path_text c.args.path.now) in
    record {
      so_far = rw c.in_ok-push.ensures.items
          (each-goes at c.loop-i.items.items c.deref-item-items.result.now c.loop-i.i c.in_ok-read.read c.item-item.result (each at [] 0 (map view c.deref-item-items.result.now)) c.loop-i-test.true c.item-item.is
          (rw c.deref.ensures.value at c.in_ok-read.ensures) c.loop-i.invariant.so_far);
      count = omega (arith, c.in_ok-push.ensures.len, c.loop-i.invariant.count);
    }

pub returns-clause-items : goal.returns-clause-items
unfolding each_at
returns-clause-items g c =
    let at = item_by (g.R.ReadItem.item_at c.args.reader.now) (path_text c.args.path.now) in
    rw (c.in_ok-list.ensures.list, ← c.deref-item-items.ensures.value, c.from_vec.ensures)
    (each-done at c.loop-i.items.items c.deref-item-items.result.now c.loop-i.i (each at [] 0 (map view c.deref-item-items.result.now)) c.loop-i-test.false c.loop-i.invariant.so_far)
