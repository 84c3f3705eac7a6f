use Rattle.std.proofs.Common.{◌∙◌}
use Rattle.serde_json.proofs.Views.{view-Object}
use Rattle.cert_json.proofs.Members.{leaf_proof_written}
use Rattle.cert_json.proofs.write.leaf_proof_object.Goals as goal

pub returns : goal.returns
returns c =
    view-Object c.put_made-3.new.members
    ∙ leaf_proof_written c.args.part.now c.nodes_value.result c.layers_value.result c.nodes_value-2.result _ _ _ _ _ (rw c.new-members.ensures.empty at c.in_ok-put.ensures.ok)
    (rw c.as_slice-on_false.ensures at c.nodes_value.ensures) c.in_ok-put_made.ensures
    (rw c.as_slice-layers.ensures at c.layers_value.ensures) c.in_ok-put_made-2.ensures
    (rw c.as_slice-on_true.ensures at c.nodes_value-2.ensures) c.in_ok-put_made-3.ensures
