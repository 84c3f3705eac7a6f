use Rattle.std.proofs.Common.{map, codes}
use Rattle.json.specs.Print.{escape_byte}
use Rattle.serde_json.specs.Data.{string}
use Rattle.serde_json.specs.Written.{compact_text}
use Rattle.pres_read.specs.Canonical.{tree_text}
use Rattle.net_json.specs.Written.{list_data}
use Rattle.cert_json.specs.Written.{node_data, layer_data, leaf_proof_data}
use Rattle.cert_text.proofs.Behind.{nine}
use Rattle.cert_text.proofs.proof.write_part.Goals as goal

pub returns : goal.returns
unfolding leaf_proof_data escape_byte
returns c =
    nine c.args.out.now.items c.push_text.new.out.items c.write_list.new.out.items c.push_text-2.new.out.items c.write_list-2.new.out.items c.push_text-3.new.out.items c.push_quoted.new.out.items c.push_text-4.new.out.items c.write_list-3.new.out.items c.push_text-5.new.out.items
    (codes "{\"false\":") (compact_text (list_data (map node_data c.args.part.now.on_false))) (codes ",\"layers\":") (compact_text (list_data (map layer_data c.args.part.now.layers))) (codes ",\"pred\":") (compact_text (string (tree_text c.args.names.now c.args.part.now.pred.tree))) (codes ",\"true\":") (compact_text (list_data (map node_data c.args.part.now.on_true))) (codes "}")
    c.in_ok-push_text.ensures (rw c.as_slice-nodes.ensures at c.in_ok-write_list.ensures) c.in_ok-push_text-2.ensures (rw c.as_slice-layers.ensures at c.in_ok-write_list-2.ensures) c.in_ok-push_text-3.ensures (rw (c.as_str.ensures, c.in_ok-pred.ensures.canonical) at c.in_ok-push_quoted.ensures) c.in_ok-push_text-4.ensures (rw c.as_slice-nodes-2.ensures at c.in_ok-write_list-3.ensures) c.in_ok-push_text-5.ensures
