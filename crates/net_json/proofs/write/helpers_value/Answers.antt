use Rattle.std.proofs.Common.{◌∙◌, arith}
use Rattle.net_json.specs.Written.{number_data}
use Rattle.serde_json.proofs.Views.{view-Array}
use Rattle.net_json.proofs.Writes.{one_more, all_written}
use Rattle.net_json.proofs.write.helpers_value.Goals as goal

pub loop-helper-preserved : goal.loop-helper-preserved
loop-helper-preserved c =
    one_more number_data c.loop-helper.list.items c.push.new.self.items c.args.leaf.now.helpers c.loop-helper.helper c.helper.result c.from.result c.loop-helper.invariant c.helper.ensures.start c.from.ensures c.in_ok-push.ensures.items

pub returns : goal.returns
returns c = view-Array c.loop-helper.list ∙ all_written number_data c.loop-helper.list.items c.args.leaf.now.helpers c.loop-helper.helper c.loop-helper.invariant (omega (arith, c.helper_count-helper-end.ensures))
