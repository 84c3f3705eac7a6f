use Rattle.std.proofs.Common.{◌∙◌, arith}
use Rattle.net_json.specs.Written.{number_data}
use Rattle.serde_json.proofs.Views.{view-Array}
use Rattle.net_json.proofs.Writes.{one_more, all_written}
use Rattle.net_json.proofs.write.inputs_value.Goals as goal

pub loop-variable-preserved : goal.loop-variable-preserved
loop-variable-preserved c =
    one_more number_data c.loop-variable.list.items c.push.new.self.items c.args.leaf.now.inputs c.loop-variable.variable c.input.result c.from.result c.loop-variable.invariant c.input.ensures.start c.from.ensures c.in_ok-push.ensures.items

pub returns : goal.returns
returns c = view-Array c.loop-variable.list ∙ all_written number_data c.loop-variable.list.items c.args.leaf.now.inputs c.loop-variable.variable c.loop-variable.invariant (omega (arith, c.input_count-variable-end.ensures.count))
