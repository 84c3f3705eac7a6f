use Rattle.std.proofs.Common.{◌∙◌}
use Rattle.serde_json.proofs.Views.{view-Object}
use Rattle.net_json.proofs.Writes.{leaf_written}
use Rattle.net_json.proofs.write.leaf_value.Goals as goal

pub returns : goal.returns
returns c =
    view-Object c.put_made-4.new.members
    ∙ leaf_written c.args.helped c.args.leaf.now c.inputs_value.result c.moves_value.result c.outputs_value.result c.states_value.result _ _ _ _ _ c.in_ok-members.ensures
    c.inputs_value.ensures c.in_ok-put_made.ensures
    c.moves_value.ensures c.in_ok-put_made-2.ensures
    c.outputs_value.ensures c.in_ok-put_made-3.ensures
    c.states_value.ensures c.in_ok-put_made-4.ensures
