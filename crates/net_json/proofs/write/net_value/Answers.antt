use Rattle.std.proofs.Common.{◌∙◌}
use Rattle.serde_json.proofs.Views.{view-Object}
use Rattle.net_json.proofs.Writes.{net_written}
use Rattle.net_json.proofs.write.net_value.Goals as goal

pub returns-clause-value : goal.returns-clause-value
returns-clause-value c =
    view-Object c.put_made-3.new.members
    ∙ net_written c.args.net.now c.args.helped c.combine_value.result c.leaves_value.result c.texts_value.result _ _ _ _ _ c.requires
    c.combine_value.ensures (rw c.new-members.ensures.empty at c.in_ok-put_made.ensures)
    c.format_value.ensures c.in_ok-put.ensures.ok
    c.leaves_value.ensures c.in_ok-put_made-2.ensures
    (rw (c.as_slice-vars.ensures, c.var_names.ensures.names) at c.texts_value.ensures) c.in_ok-put_made-3.ensures
