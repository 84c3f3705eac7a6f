use Rattle.std.proofs.Common.{◌∙◌, arith}
use Rattle.serde_json.specs.Data.{string}
use Rattle.serde_json.proofs.Views.{view-Array}
use Rattle.net_json.proofs.Writes.{one_more, all_written}
use Rattle.net_json.proofs.write.states_value.Goals as goal

pub loop-state-preserved : goal.loop-state-preserved
loop-state-preserved c =
    one_more string c.loop-state.list.items c.push.new.self.items c.args.leaf.now.states c.loop-state.state c.name.result.now c.in_ok-try_from_str.field-0 c.loop-state.invariant c.name.ensures c.in_ok-try_from_str.ensures c.in_ok-push.ensures.items

pub returns : goal.returns
returns c = view-Array c.loop-state.list ∙ all_written string c.loop-state.list.items c.args.leaf.now.states c.loop-state.state c.loop-state.invariant (omega (arith, c.state_count-state-end.ensures.count))
