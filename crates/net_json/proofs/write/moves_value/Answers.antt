use Rattle.std.proofs.Common.{◌∙◌, arith}
use Rattle.net_json.specs.Written.{move_data}
use Rattle.serde_json.proofs.Views.{view-Array}
use Rattle.net_json.proofs.Writes.{one_more, all_written}
use Rattle.net_json.proofs.write.moves_value.Goals as goal

pub loop-t-preserved : goal.loop-t-preserved
loop-t-preserved c =
    one_more move_data c.loop-t.list.items c.push.new.self.items c.args.leaf.now.moves c.loop-t.t c.move_at.result c.in_ok-move_value.field-0 c.loop-t.invariant c.move_at.ensures c.in_ok-move_value.ensures c.in_ok-push.ensures.items

pub returns : goal.returns
returns c = view-Array c.loop-t.list ∙ all_written move_data c.loop-t.list.items c.args.leaf.now.moves c.loop-t.t c.loop-t.invariant (omega (arith, c.move_count-t-end.ensures))
