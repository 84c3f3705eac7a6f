-- The value of a combination, item by item.
use Rattle.std.proofs.Common.{◌≡◌, ℕ, ◌+◌, ◌<◌, ◌≤◌, List, [], ◌∷◌, length, take, drop, get_or, refl, ap, sym, ◌∙◌, arith}
use Rattle.std.specs.Prelude.{Option, Some, None, option_and_then, unwrap_or}
use Rattle.std.proofs.lemmas.List.{take_more, take-append-drop}
use Rattle.pop_leaf.specs.declared.item.Item.{Item}
use Rattle.pop_leaf.specs.NetModel.{Operators, after_item, after_items, only_one, combined}
use Rattle.pop_net.proofs.Trees.{after_items-append}

module _ {A : Type 0} (ops : Operators A) (items : List Item) where
  -- the first k items leave these operands
  pub record Valued (k : ℕ) (operands : List A) : Type 0 where
    pub found : after_items ops (take k items) [] ≡ Some operands
    pub few : length operands ≤ k

  after_one : (k : ℕ) (d : Item) (operands : List A) → k < length items → Valued k operands → after_items ops (take (k + 1) items) [] ≡ after_item ops (get_or items k d) operands
  after_one k d operands l w =
      ap (λ xs. after_items ops xs []) (take_more items k d l) ∙ after_items-append ops (take k items) (get_or items k d ∷ []) [] ∙ ap (option_and_then (after_items ops (get_or items k d ∷ []))) w.found ∙ alone (after_item ops (get_or items k d) operands)
    where
      alone : (o : Option (List A)) → option_and_then (after_items ops []) o ≡ o
      alone None = refl
      alone (Some next) = refl

  pub valued_next : (k : ℕ) (d : Item) (operands next : List A) → k < length items → Valued k operands → after_item ops (get_or items k d) operands ≡ Some next → length next ≤ length operands + 1 → Valued (k + 1) next
  valued_next k d operands next l w e m = record { found = after_one k d operands l w ∙ e; few = omega (arith, m, w.few) }

  -- an item without its operands leaves no value
  pub no_value : (k : ℕ) (d : Item) (operands : List A) (other : A) → k < length items → Valued k operands → after_item ops (get_or items k d) operands ≡ None → unwrap_or (combined ops items) other ≡ other
  no_value k d operands other l w e =
      ap (λ xs. unwrap_or (option_and_then only_one (after_items ops xs [])) other) (sym (take-append-drop (k + 1) items))
      ∙ ap (λ o. unwrap_or (option_and_then only_one o) other) (after_items-append ops (take (k + 1) items) (drop (k + 1) items) [] ∙ ap (option_and_then (after_items ops (drop (k + 1) items))) (after_one k d operands l w ∙ e))
