use Rattle.std.proofs.Common.{map, codes}
use Rattle.json.specs.Print.{escape_byte}
use Rattle.serde_json.specs.Written.{compact_text}
use Rattle.net_json.specs.Written.{list_data, number_data}
use Rattle.cert_json.specs.Written.{integer_data, layer_data}
use Rattle.cert_text.proofs.Behind.{five}
use Rattle.cert_text.proofs.proof.write_layer.Goals as goal

pub returns : goal.returns
unfolding layer_data escape_byte
returns c =
    five c.args.out.now.items c.push_text.new.out.items c.write_list.new.out.items c.push_text-2.new.out.items c.write_list-2.new.out.items c.push_text-3.new.out.items
    (codes "{\"moves\":") (compact_text (list_data (map number_data c.args.layer.now.moves))) (codes ",\"weights\":") (compact_text (list_data (map integer_data c.args.layer.now.weights))) (codes "}")
    c.in_ok-push_text.ensures (rw c.as_slice-moves.ensures at c.in_ok-write_list.ensures) c.in_ok-push_text-2.ensures (rw c.as_slice-weights.ensures at c.in_ok-write_list-2.ensures) c.in_ok-push_text-3.ensures
