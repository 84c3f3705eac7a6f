use Rattle.std.proofs.Common.{map, codes, rules, w64, SFits}
use Rattle.std.proofs.lemmas.Int.{to_z-of_z}
use Rattle.json.specs.Print.{escape_byte}
use Rattle.serde_json.specs.Written.{compact_text}
use Rattle.net_json.specs.Written.{list_data}
use Rattle.cert_json.specs.Written.{term_data, integer_data}
use Rattle.cert_text.proofs.Behind.{five}
use Rattle.cert_text.proofs.node.write_split.Goals as goal

pub returns : goal.returns
unfolding escape_byte
returns c =
    let fits : SFits w64 c.args.row.now.constant = search rules in
    five c.args.out.now.items c.push_text.new.out.items c.write_list.new.out.items c.push_text-2.new.out.items c.push_integer.new.out.items c.push_text-3.new.out.items
    (codes "[\"split\",") (compact_text (list_data (map term_data c.args.row.now.terms))) (codes ",") (compact_text (integer_data c.args.row.now.constant)) (codes "]")
    c.in_ok-push_text.ensures (rw c.as_slice-terms.ensures at c.in_ok-write_list.ensures) c.in_ok-push_text-2.ensures (rw (to_z-of_z w64 c.args.row.now.constant fits) at c.in_ok-push_integer.ensures) c.in_ok-push_text-3.ensures
