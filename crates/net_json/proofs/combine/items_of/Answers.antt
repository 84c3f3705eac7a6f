use Rattle.std.proofs.Common.{◌≡◌, true, false, arith, ◌∙◌}
use Rattle.std.proofs.lemmas.Bool.{OnTrue_at}
use Rattle.std.proofs.lemmas.Result.{err_from_is_err_and}
use Rattle.serde_json.specs.View.{view}
use Rattle.base_json.specs.Paths.{path_text}
use Rattle.pop_leaf.specs.NetModel.{after_item, depth_operators}
use Rattle.pop_net.specs.NetFaults.{names_below, are_low}
use Rattle.net_json.specs.Examined.{combine_item, combine_items_at}
use Rattle.base_json.proofs.Each.{each-fails, each-goes, each-done}
use Rattle.net_json.proofs.Items.{open_next, operand-fails, shape-fails, item-goes, and_second}
use Rattle.net_json.proofs.combine.items_of.Goals as goal
use Rattle.pop_net.proofs.Trees.{after_item_few}

pub returns-in_err-operand-clause-items : goal.returns-in_err-operand-clause-items
unfolding combine_items_at
returns-in_err-operand-clause-items c =
    let p = err_from_is_err_and c.from_residual-in_err-operand.result c.from_residual-in_err-operand.ensures.1 in
    let path = path_text c.args.path.now in
    let failed = operand-fails path c.args.leaves c.loop-i.items.items c.loop-i.i (view c.item-item.result) c.in_err-operand.field-0.0 c.in_err-operand.ensures.operand in
    rw (p.1, p.2, c.in_ok-list.ensures.list, ← c.deref-item-items.ensures.value)
    (each-fails (combine_item path c.args.leaves) c.loop-i.items.items c.deref-item-items.result.now c.loop-i.i c.in_err-operand.field-0.0 c.item-item.result _ c.loop-i-test.true c.item-item.is failed c.loop-i.invariant.read)

pub returns-then-not-put-clause-items : goal.returns-then-not-put-clause-items
unfolding combine_items_at
returns-then-not-put-clause-items c =
    let path = path_text c.args.path.now in
    let no : c.put.result ≡ false = cc in
    let high : are_low (after_item depth_operators c.in_ok-operand.operand c.loop-i.trees) ≡ false = and_second c.put.result (names_below c.args.leaves c.in_ok-operand.operand) _ c.put.ensures.good c.in_ok-operand.ensures.below ∙ no in
    let failed = shape-fails path c.args.leaves c.loop-i.items.items c.loop-i.i (view c.item-item.result) c.broken.result c.in_ok-operand.operand c.loop-i.trees c.in_ok-operand.ensures.operand c.loop-i.invariant.trees_open high c.broken.ensures in
    rw (c.in_ok-list.ensures.list, ← c.deref-item-items.ensures.value)
    (each-fails (combine_item path c.args.leaves) c.loop-i.items.items c.deref-item-items.result.now c.loop-i.i c.broken.result c.item-item.result _ c.loop-i-test.true c.item-item.is failed c.loop-i.invariant.read)

pub loop-i-preserved : goal.loop-i-preserved
loop-i-preserved c =
    let path = path_text c.args.path.now in
    let item = c.in_ok-operand.operand in
    let yes : c.put.result ≡ true = cc in
    let low : are_low (after_item depth_operators item c.loop-i.trees) ≡ true = and_second c.put.result (names_below c.args.leaves item) _ c.put.ensures.good c.in_ok-operand.ensures.below ∙ yes in
    let after = OnTrue_at yes c.put.ensures.put in
    let goes = item-goes path c.args.leaves c.loop-i.items.items c.loop-i.i (view c.item-item.result) item c.loop-i.trees c.in_ok-operand.ensures.operand c.loop-i.invariant.trees_open low in
    record {
      read = rw c.in_ok-push.ensures.items (each-goes (combine_item path c.args.leaves) c.loop-i.items.items c.deref-item-items.result.now c.loop-i.i item c.item-item.result _ c.loop-i-test.true c.item-item.is goes c.loop-i.invariant.read);
      trees_open = rw c.in_ok-push.ensures.items (open_next c.loop-i.items.items c.loop-i.trees item c.loop-i.invariant.trees_open ∙ after);
      few = omega (arith, after_item_few depth_operators item c.loop-i.trees c.put.new.self after, c.loop-i.invariant.few);
    }

pub returns-clause-items : goal.returns-clause-items
unfolding combine_items_at
returns-clause-items c =
    rw (c.in_ok-list.ensures.list, ← c.deref-item-items.ensures.value, c.from_vec.ensures)
    (each-done (combine_item (path_text c.args.path.now) c.args.leaves) c.loop-i.items.items c.deref-item-items.result.now c.loop-i.i _ c.loop-i-test.false c.loop-i.invariant.read)
