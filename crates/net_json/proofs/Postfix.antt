-- Combinations in postfix: if the whole is one tree, the trees that are open before are no deeper.
use Rattle.std.proofs.Common.{◌≡◌, ℕ, ◌≤◌, true, nat_le, List, [], ◌∷◌, ◌++◌, length, Option, Some, None, option_and_then, refl, sym, ap, subst, ◌∙◌, append_assoc, arith}
use Rattle.std.specs.Prelude.{is_some, IsSomeAnd}
use Rattle.std.proofs.lemmas.Bool.{and_parts, leb-true}
use Rattle.std.proofs.lemmas.List.Elements.{All-nil, All-cons}
use Rattle.base_laws.proofs.Options.{some_before, some_and}
use Rattle.pop_leaf.specs.declared.item.Item.{Item}
use Rattle.pop_leaf.specs.NetModel.{after_items, only_one, combined, depth_operators}
use Rattle.pop_net.specs.NetFaults.{are_low}
use Rattle.pop_net.proofs.Trees.{after_items-append, low_decides}
use Rattle.pop_net.proofs.Whole.{AllLow, all_low_before, one_left}
use Rattle.base_json.proofs.Readers.{EachFrom}
use Rattle.net_json.specs.Examined.{open_depths}

-- the item has its operands, and all trees are at most 65 deep
abbrev pub IsPlaced : List Item → Item → Type 0
IsPlaced found item = are_low (open_depths (found ++ item ∷ [])) ≡ true

-- after each item of a combination of depth at most 65 no tree is deeper
all_shallow : (found items : List Item) (after : List ℕ)
    → after_items depth_operators (found ++ items) [] ≡ Some after → AllLow after → EachFrom IsPlaced found items
all_shallow found [] after e low = tt
all_shallow found (item ∷ items) after e low =
    let next = found ++ item ∷ [] in
    let put = λ (xs : List Item). after_items depth_operators xs [] in
    let whole : put (next ++ items) ≡ Some after = ap put (append_assoc found (item ∷ []) items) ∙ e in
    let split = sym (after_items-append depth_operators next items []) ∙ whole in
    let f = some_before (after_items depth_operators items) (open_depths next) after split in
    (ap are_low f.1 ∙ (low_decides f.0).1 (all_low_before items f.0 after f.2 low), all_shallow next items after whole low)

pub placed-again : (items : List Item) → IsSomeAnd (combined depth_operators items) (λ d. d ≤ 65) → EachFrom IsPlaced [] items
placed-again items one =
    let s = some_and (combined depth_operators items) (λ d. d ≤ 65) one in
    let o = some_before only_one (after_items depth_operators items []) s.0 s.1 in
    let ends : after_items depth_operators items [] ≡ Some (s.0 ∷ []) = o.1 ∙ ap (λ (ds : List ℕ). Some ds) (one_left o.0 s.0 o.2) in
    all_shallow [] items (s.0 ∷ []) ends (All-cons (λ d. d ≤ 65) s.0 [] s.2 (All-nil (λ d. d ≤ 65)))

pub one_tree : (items : List Item) → IsSomeAnd (combined depth_operators items) (λ d. d ≤ 65) → is_some (combined depth_operators items) ≡ true
one_tree items one = let s = some_and (combined depth_operators items) (λ d. d ≤ 65) one in rw s.1 refl

last_placed : (found : List Item) (item : Item) (items : List Item) → EachFrom IsPlaced found (item ∷ items) → are_low (open_depths (found ++ item ∷ items)) ≡ true
last_placed found item [] placed = placed.0
last_placed found item (next ∷ items) placed =
    subst (λ (xs : List Item). are_low (open_depths xs) ≡ true) (append_assoc found (item ∷ []) (next ∷ items)) (last_placed (found ++ item ∷ []) next items placed.1)

shallow_one : (o : Option (List ℕ)) → are_low o ≡ true → is_some (option_and_then only_one o) ≡ true → IsSomeAnd (option_and_then only_one o) (λ d. d ≤ 65)
shallow_one None shallow one = absurd cc
shallow_one (Some []) shallow one = absurd cc
shallow_one (Some (d ∷ [])) shallow one = leb-true d 65 (and_parts (nat_le d 65) true shallow).0
shallow_one (Some (d ∷ c ∷ ds)) shallow one = absurd cc

pub placed-takes : (items : List Item) → 1 ≤ length items → EachFrom IsPlaced [] items → is_some (combined depth_operators items) ≡ true → IsSomeAnd (combined depth_operators items) (λ d. d ≤ 65)
placed-takes [] some_item placed one = absurd (omega arith)
placed-takes (item ∷ items) some_item placed one = shallow_one (open_depths (item ∷ items)) (last_placed [] item items placed) one
