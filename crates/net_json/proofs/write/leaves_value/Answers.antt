use Rattle.std.proofs.Common.{◌∙◌, arith}
use Rattle.net_json.specs.Written.{leaf_data}
use Rattle.serde_json.proofs.Views.{view-Array}
use Rattle.net_json.proofs.Writes.{one_more, all_written}
use Rattle.net_json.proofs.write.leaves_value.Goals as goal

pub loop-i-preserved : goal.loop-i-preserved
loop-i-preserved c =
    one_more (leaf_data c.args.helped) c.loop-i.list.items c.push.new.self.items c.args.net.now.leaves c.loop-i.i c.leaf.result.now c.in_ok-leaf_value.field-0 c.loop-i.invariant c.leaf.ensures c.in_ok-leaf_value.ensures c.in_ok-push.ensures.items

pub returns : goal.returns
returns c = view-Array c.loop-i.list ∙ all_written (leaf_data c.args.helped) c.loop-i.list.items c.args.net.now.leaves c.loop-i.i c.loop-i.invariant (omega (arith, c.leaf_count-i-end.ensures.count))
