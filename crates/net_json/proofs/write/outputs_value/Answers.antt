use Rattle.std.proofs.Common.{◌∙◌, arith}
use Rattle.serde_json.specs.Data.{boolean}
use Rattle.serde_json.proofs.Views.{view-Array}
use Rattle.net_json.proofs.Writes.{one_more, all_written}
use Rattle.net_json.proofs.write.outputs_value.Goals as goal

pub loop-state-preserved : goal.loop-state-preserved
loop-state-preserved c =
    one_more boolean c.loop-state.list.items c.push.new.self.items c.args.leaf.now.outputs c.loop-state.state c.output.result c.from.result c.loop-state.invariant c.output.ensures c.from.ensures c.in_ok-push.ensures.items

pub returns : goal.returns
returns c = view-Array c.loop-state.list ∙ all_written boolean c.loop-state.list.items c.args.leaf.now.outputs c.loop-state.state c.loop-state.invariant (omega (arith, c.state_count-state-end.ensures.count))
