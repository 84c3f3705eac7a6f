use Rattle.std.proofs.Common.{◌≡◌, ◌++◌, ◌∙◌, ℕ, Bool, true, false, List, map, codes, ap}
use Rattle.json.specs.Print.{escape_byte}
use Rattle.serde_json.specs.Data.{boolean, string}
use Rattle.serde_json.specs.Written.{compact_text}
use Rattle.pop_leaf.specs.LeafModel.{LeafModel}
use Rattle.net_json.specs.Written.{list_data, number_data, numbers_data, move_data, leaf_data}
use Rattle.cert_text.specs.LeafText.{leaf_head}
use Rattle.cert_text.proofs.Behind.{nine, headed}
use Rattle.cert_text.proofs.leaf.write_leaf.Goals as goal

abbrev after_head : LeafModel → List ℕ
after_head leaf =
    compact_text (list_data (map number_data leaf.inputs))
    ++ (codes ",\"moves\":"
    ++ (compact_text (list_data (map move_data leaf.moves))
    ++ (codes ",\"output\":"
    ++ (compact_text (list_data (map boolean leaf.outputs))
    ++ (codes ",\"states\":" ++ (compact_text (list_data (map string leaf.states)) ++ codes "}"))))))

with_head : (helped : Bool) (leaf : LeafModel) (old new : List ℕ) → new ≡ old ++ (leaf_head helped leaf ++ after_head leaf) → new ≡ old ++ compact_text (leaf_data helped leaf)
unfolding leaf_data escape_byte
with_head false leaf old new e = e
with_head true leaf old new e =
    e ∙ ap (λ (text : List ℕ). old ++ text) (headed (codes "{\"helpers\":") (compact_text (numbers_data leaf.helpers)) (codes ",\"input\":") (after_head leaf))

pub returns : goal.returns
unfolding leaf_data escape_byte
returns c =
    with_head c.args.helped c.args.leaf.now c.args.out.now.items c.push_text-4.new.out.items
    (nine c.args.out.now.items c.write_head.new.out.items c.write_list.new.out.items c.push_text.new.out.items c.write_list-2.new.out.items c.push_text-2.new.out.items c.write_list-3.new.out.items c.push_text-3.new.out.items c.write_list-4.new.out.items c.push_text-4.new.out.items
    (leaf_head c.args.helped c.args.leaf.now) (compact_text (list_data (map number_data c.args.leaf.now.inputs))) (codes ",\"moves\":") (compact_text (list_data (map move_data c.args.leaf.now.moves))) (codes ",\"output\":") (compact_text (list_data (map boolean c.args.leaf.now.outputs))) (codes ",\"states\":") (compact_text (list_data (map string c.args.leaf.now.states))) (codes "}")
    c.in_ok-write_head.ensures c.in_ok-write_list.ensures c.in_ok-push_text.ensures c.in_ok-write_list-2.ensures c.in_ok-push_text-2.ensures c.in_ok-write_list-3.ensures c.in_ok-push_text-3.ensures c.in_ok-write_list-4.ensures c.in_ok-push_text-4.ensures)
