use Rattle.std.proofs.Common.{◌∙◌}
use Rattle.serde_json.proofs.Views.{view-Object}
use Rattle.cert_json.proofs.Members.{layer_written}
use Rattle.cert_json.proofs.write.layer_value.Goals as goal

pub returns : goal.returns
returns c =
    view-Object c.put_made-2.new.members
    ∙ layer_written c.args.layer.now c.moves_value.result c.weights_value.result _ _
    (rw c.as_slice-moves.ensures at c.moves_value.ensures) (rw c.new-members.ensures.empty at c.in_ok-put_made.ensures)
    (rw c.as_slice-weights.ensures at c.weights_value.ensures) c.in_ok-put_made-2.ensures
