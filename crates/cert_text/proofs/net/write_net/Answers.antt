use Rattle.std.proofs.Common.{◌≡◌, ◌++◌, Bool, nat_lt, map, codes, decimal, ap, subst}
use Rattle.json.specs.Print.{escape_byte}
use Rattle.serde_json.specs.Data.{string}
use Rattle.serde_json.specs.Written.{compact_text}
use Rattle.net_json.specs.Written.{list_data, texts_data, number_data, item_data, leaf_data, net_members, is_helped, format_of, net_data}
use Rattle.cert_text.proofs.Behind.{nine}
use Rattle.cert_text.proofs.net.write_net.Goals as goal

pub returns : goal.returns
unfolding net_data escape_byte
returns c =
    let net = c.args.net.now in
    let helped : Bool = nat_lt 0 c.helper_count-helped.result in
    let same : helped ≡ is_helped net = ap (nat_lt 0) c.helper_count-helped.ensures in
    subst (λ (h : Bool). c.push_text-5.new.out.items ≡ c.args.out.now.items ++ compact_text (net_members (list_data (map item_data net.combine)) (number_data (format_of h)) (list_data (map (leaf_data h) net.leaves)) (texts_data net.variables))) same
    (nine c.args.out.now.items c.push_text.new.out.items c.write_list.new.out.items c.push_text-2.new.out.items c.push_number.new.out.items c.push_text-3.new.out.items c.write_list-2.new.out.items c.push_text-4.new.out.items c.write_list-3.new.out.items c.push_text-5.new.out.items
    (codes "{\"combine\":") (compact_text (list_data (map item_data net.combine))) (codes ",\"format\":") (decimal (format_of helped)) (codes ",\"leaves\":") (compact_text (list_data (map (leaf_data helped) net.leaves))) (codes ",\"vars\":") (compact_text (list_data (map string net.variables))) (codes "}")
    c.in_ok-push_text.ensures c.in_ok-write_list.ensures c.in_ok-push_text-2.ensures (rw c.format_number.ensures at c.in_ok-push_number.ensures.ok) c.in_ok-push_text-3.ensures c.in_ok-write_list-2.ensures c.in_ok-push_text-4.ensures (rw (c.as_slice-names.ensures, c.var_names.ensures.names) at c.in_ok-write_list-3.ensures) c.in_ok-push_text-5.ensures)
