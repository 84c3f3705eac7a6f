use Rattle.std.proofs.Common.{◌∙◌}
use Rattle.std.proofs.lemmas.Option.{slice_get-get_or}
use Rattle.serde_json.proofs.Views.{view-Array}
use Rattle.net_json.proofs.Writes.{one_more, all_written}
use Rattle.net_json.specs.Written.{number_data}
use Rattle.cert_json.proofs.write_node.states_value.Goals as goal

pub loop-state-preserved : goal.loop-state-preserved
loop-state-preserved c =
    one_more number_data c.loop-state.list.items c.push.new.self.items c.args.states.now c.loop-state.state-index _ c.from.result c.loop-state.invariant (slice_get-get_or _ _ _ c.loop-state-test.true) c.from.ensures c.in_ok-push.ensures.items

pub returns : goal.returns
returns c = view-Array c.loop-state.list ∙ all_written number_data c.loop-state.list.items c.args.states.now c.loop-state.state-index c.loop-state.invariant c.loop-state-test.false
