use Rattle.std.proofs.Common.{codes, decimal, rules, w64, SFits}
use Rattle.std.proofs.lemmas.Int.{to_z-of_z}
use Rattle.serde_json.specs.Written.{compact_text}
use Rattle.cert_json.specs.Written.{integer_data}
use Rattle.cert_text.proofs.Behind.{five}
use Rattle.cert_text.proofs.node.push_term.Goals as goal

pub returns : goal.returns
returns c =
    let fits : SFits w64 c.args.term.by = search rules in
    five c.args.out.now.items c.push_text.new.out.items c.push_number.new.out.items c.push_text-2.new.out.items c.push_integer.new.out.items c.push_text-3.new.out.items
    (codes "[") (decimal c.args.term.at) (codes ",") (compact_text (integer_data c.args.term.by)) (codes "]")
    c.in_ok-push_text.ensures (rw c.from.ensures at c.in_ok-push_number.ensures.ok) c.in_ok-push_text-2.ensures (rw (to_z-of_z w64 c.args.term.by fits) at c.in_ok-push_integer.ensures) c.in_ok-push_text-3.ensures
