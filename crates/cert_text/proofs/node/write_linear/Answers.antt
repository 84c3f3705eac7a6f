use Rattle.std.proofs.Common.{map, codes}
use Rattle.json.specs.Print.{escape_byte}
use Rattle.serde_json.specs.Written.{compact_text}
use Rattle.net_json.specs.Written.{list_data}
use Rattle.cert_json.specs.Written.{term_data}
use Rattle.cert_text.proofs.Behind.{three}
use Rattle.cert_text.proofs.node.write_linear.Goals as goal

pub returns : goal.returns
unfolding escape_byte
returns c =
    three c.args.out.now.items c.push_text.new.out.items c.write_list.new.out.items c.push_text-2.new.out.items
    (codes "[\"lin\",") (compact_text (list_data (map term_data c.args.terms.now))) (codes "]")
    c.in_ok-push_text.ensures c.in_ok-write_list.ensures c.in_ok-push_text-2.ensures
