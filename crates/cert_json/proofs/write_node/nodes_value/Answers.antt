use Rattle.std.proofs.Common.{◌∙◌, refl}
use Rattle.std.proofs.lemmas.Option.{slice_get_read}
use Rattle.serde_json.proofs.Views.{view-Array}
use Rattle.net_json.proofs.Writes.{one_more, all_written}
use Rattle.cert_json.specs.Written.{node_data}
use Rattle.cert_json.proofs.write_node.nodes_value.Goals as goal

pub loop-node-preserved : goal.loop-node-preserved
loop-node-preserved c =
    one_more node_data c.loop-node.list.items c.push.new.self.items c.args.nodes.now c.loop-node.node-index _ c.in_ok-node_value.field-0 c.loop-node.invariant (slice_get_read c.args.nodes.now _ _ _ refl c.loop-node-test.true c.node-item.is) c.in_ok-node_value.ensures c.in_ok-push.ensures.items

pub returns : goal.returns
returns c = view-Array c.loop-node.list ∙ all_written node_data c.loop-node.list.items c.args.nodes.now c.loop-node.node-index c.loop-node.invariant c.loop-node-test.false
