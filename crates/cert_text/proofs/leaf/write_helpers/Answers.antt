use Rattle.std.proofs.Common.{map, codes}
use Rattle.serde_json.specs.Written.{compact_text}
use Rattle.net_json.specs.Written.{list_data, number_data}
use Rattle.cert_text.proofs.Behind.{three}
use Rattle.cert_text.proofs.leaf.write_helpers.Goals as goal

pub returns : goal.returns
returns c =
    three c.args.out.now.items c.push_text.new.out.items c.write_list.new.out.items c.push_text-2.new.out.items
    (codes "{\"helpers\":") (compact_text (list_data (map number_data c.args.leaf.now.helpers))) (codes ",\"input\":")
    c.in_ok-push_text.ensures c.in_ok-write_list.ensures c.in_ok-push_text-2.ensures
