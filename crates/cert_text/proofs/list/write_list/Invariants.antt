use Rattle.std.proofs.Common.{◌≡◌, ◌++◌}
use Rattle.serde_json.specs.Written.{compact_text}
use Rattle.net_json.specs.Written.{list_data}
use Rattle.cert_text.proofs.Items.{left_of}
use Rattle.cert_text.proofs.list.write_list.Given as goal

abbrev pub invariant-items : goal.invariant-items
invariant-items g l = record {
  written : l.out.items ++ left_of (g.L.WriteItems.items l.list) l.i ≡ l.fn.out.items ++ compact_text (list_data (g.L.WriteItems.items l.list));
}
