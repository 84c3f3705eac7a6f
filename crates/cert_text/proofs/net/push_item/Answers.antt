use Rattle.std.proofs.Common.{◌≡◌, ◌++◌, sym, subst}
use Rattle.json.specs.Print.{escape_byte}
use Rattle.pop_leaf.specs.declared.item.Item.{Item}
use Rattle.serde_json.specs.Written.{compact_text}
use Rattle.net_json.specs.Written.{item_data}
use Rattle.cert_text.proofs.net.push_item.Goals as goal

pub returns-in_ok-push_text-in-Not : goal.returns-in_ok-push_text-in-Not
unfolding escape_byte
returns-in_ok-push_text-in-Not c =
    subst (λ (item : Item). c.push_text.new.out.items ≡ c.args.out.now.items ++ compact_text (item_data item)) (sym c.in-Not.is) c.in_ok-push_text-in-Not.ensures

pub returns-in_ok-push_text-in-And : goal.returns-in_ok-push_text-in-And
unfolding escape_byte
returns-in_ok-push_text-in-And c =
    subst (λ (item : Item). c.push_text-in-And.new.out.items ≡ c.args.out.now.items ++ compact_text (item_data item)) (sym c.in-And.is) c.in_ok-push_text-in-And.ensures

pub returns-in_ok-push_text-in-Or : goal.returns-in_ok-push_text-in-Or
unfolding escape_byte
returns-in_ok-push_text-in-Or c =
    subst (λ (item : Item). c.push_text-in-Or.new.out.items ≡ c.args.out.now.items ++ compact_text (item_data item)) (sym c.in-Or.is) c.in_ok-push_text-in-Or.ensures
