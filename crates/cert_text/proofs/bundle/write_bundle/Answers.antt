use Rattle.std.proofs.Common.{codes}
use Rattle.json.specs.Print.{escape_byte}
use Rattle.serde_json.specs.Data.{string}
use Rattle.serde_json.specs.Written.{compact_text}
use Rattle.pres_read.specs.Canonical.{tree_text}
use Rattle.net_json.specs.Written.{net_data}
use Rattle.cert_json.specs.Written.{proof_data}
use Rattle.cert_text.specs.Bundle.{bundle_data}
use Rattle.cert_text.proofs.Behind.{seven}
use Rattle.cert_text.proofs.bundle.write_bundle.Goals as goal

pub returns : goal.returns
unfolding bundle_data escape_byte
returns c =
    seven c.args.out.now.items c.push_text.new.out.items c.write_net.new.out.items c.push_text-2.new.out.items c.push_quoted.new.out.items c.push_text-3.new.out.items c.write_proof.new.out.items c.push_text-4.new.out.items
    (codes "{\"net\":") (compact_text (net_data c.args.bundle.now.net)) (codes ",\"pred\":") (compact_text (string (tree_text c.args.bundle.now.net.variables c.args.bundle.now.pred.tree))) (codes ",\"proof\":") (compact_text (proof_data c.args.bundle.now.net.variables c.args.bundle.now.proof)) (codes "}")
    c.in_ok-push_text.ensures c.in_ok-write_net.ensures c.in_ok-push_text-2.ensures (rw (c.as_str.ensures, c.in_ok-pred.ensures.canonical, c.var_names-names.ensures.names) at c.in_ok-push_quoted.ensures) c.in_ok-push_text-3.ensures (rw c.var_names-names.ensures.names at c.in_ok-write_proof.ensures) c.in_ok-push_text-4.ensures
