use Rattle.std.proofs.Common.{◌∙◌, arith}
use Rattle.net_json.specs.Written.{item_data}
use Rattle.serde_json.proofs.Views.{view-Array}
use Rattle.net_json.proofs.Writes.{one_more, all_written}
use Rattle.net_json.proofs.write.combine_value.Goals as goal

pub loop-i-preserved : goal.loop-i-preserved
loop-i-preserved c =
    one_more item_data c.loop-i.list.items c.push.new.self.items c.args.net.now.combine c.loop-i.i c.item.result c.in_ok-item_value.field-0 c.loop-i.invariant c.item.ensures c.in_ok-item_value.ensures c.in_ok-push.ensures.items

pub returns : goal.returns
returns c = view-Array c.loop-i.list ∙ all_written item_data c.loop-i.list.items c.args.net.now.combine c.loop-i.i c.loop-i.invariant (omega (arith, c.item_count-i-end.ensures))
