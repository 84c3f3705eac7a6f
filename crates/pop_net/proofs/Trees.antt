-- Which combinations in postfix are one tree within the depth limit.
use Rattle.std.proofs.Common.{◌≡◌, inl, inr, ℕ, suc, ◌+◌, ◌<◌, ◌≤◌, nat_le, Bool, true, false, not, ◌&&◌, List, [], ◌∷◌, ◌++◌, length, take, drop, get_or, refl, ap, sym, subst, ◌⊎◌, ◌∙◌, arith}
use Rattle.std.specs.Prelude.{Option, Some, None, All, Decides, option_and_then, ◌==◌}
use Rattle.std.specs.List.{list_all}
use Rattle.std.specs.Option.{option_map, option_map_or}
use Rattle.std.proofs.lemmas.Bool.Decides.{Decides-by_and}
use Rattle.std.proofs.lemmas.Bool.{and_parts, and_from, leb-true, le-leb, cases_eq}
use Rattle.std.proofs.lemmas.List.{take_more, take_all}
use Rattle.std.proofs.lemmas.Option.{same_Some as same_some}
use Rattle.std.proofs.lemmas.List.Folds.{list_all-append}
use Rattle.pop_net.specs.declared.fault.CombinationFault.TheVariants as combination
use Rattle.pop_leaf.specs.FirstFault.{unless, first_of}
use Rattle.pop_leaf.proofs.FirstFault.{none_below, found_below}
use Rattle.std.proofs.lemmas.List.Elements.{All-head, All-tail, All-drop}
use Rattle.std.proofs.Math.Bool.{and-true}
use Rattle.pop_leaf.specs.declared.item.Item.{Item}
use Rattle.pop_leaf.specs.declared.item.Item.TheVariants.{Leaf, Not, And, Or}
use Rattle.pop_leaf.specs.NetModel.{Operators, after_item, after_items, depth_operators}
use Rattle.pop_net.specs.NetFaults.{names_below, are_low, stands, operands_left, fault_of_combination}
use Rattle.base_laws.proofs.Options.{then_itself}

abbrev pub is_low : ℕ → Bool
is_low d = nat_le d 65

pub low_decides : (xs : List ℕ) → Decides (list_all is_low xs) (All (λ d. d ≤ 65) xs)
low_decides = Decides-by_and is_low (λ d. d ≤ 65) (list_all is_low) (λ d. (leb-true d 65, le-leb d 65)) refl (λ _ _. refl)

-- the two newest operands, where all are low
pub low_two : (xs ys zs : List ℕ) (a b : ℕ) → All (λ d. d ≤ 65) xs → xs ≡ b ∷ ys → ys ≡ a ∷ zs → (a ≤ 65) × (b ≤ 65)
low_two xs ys zs a b low e f =
    let h : All (λ d. d ≤ 65) (b ∷ ys) = rw e at low in
    let g : All (λ d. d ≤ 65) (a ∷ zs) = rw f at (All-tail (λ d. d ≤ 65) b ys h) in
    (All-head (λ d. d ≤ 65) a zs g, All-head (λ d. d ≤ 65) b ys h)

pub second_rest : (xs ys zs : List ℕ) (a b : ℕ) → xs ≡ b ∷ ys → ys ≡ a ∷ zs → zs ≡ drop 2 xs
second_rest xs ys zs a b e f = rw (e, f) refl

-- a low tree, put on what is left of low operands
pub put_low : (old rest : List ℕ) (depth n : ℕ) (found : Option (List ℕ)) → All (λ d. d ≤ 65) old → rest ≡ drop n old → found ≡ Some (depth ∷ rest) → depth ≤ 65 → are_low found ≡ true
put_low old rest depth n found low e f h =
    let kept : All (λ d. d ≤ 65) rest = rw e (All-drop (λ d. d ≤ 65) n old low) in
    rw f (and_from _ _ (le-leb depth 65 h) ((low_decides rest).1 kept))

module _ {A : Type 0} (ops : Operators A) where
  pub after_items-append : (xs ys : List Item) (operands : List A) → after_items ops (xs ++ ys) operands ≡ option_and_then (after_items ops ys) (after_items ops xs operands)
  after_items-append [] ys operands = refl
  after_items-append (x ∷ xs) ys operands =
      after (after_item ops x operands) (after_items ops (xs ++ ys)) (after_items ops ys) (after_items ops xs) (λ next. after_items-append xs ys next)
    where
      after : (found : Option (List A)) (all last first : List A → Option (List A)) → ((next : List A) → all next ≡ option_and_then last (first next)) → option_and_then all found ≡ option_and_then last (option_and_then first found)
      after None all last first h = refl
      after (Some next) all last first h = h next

  -- an item adds one operand at most
  pub after_item_few : (item : Item) (old new : List A) → after_item ops item old ≡ Some new → length new ≤ length old + 1
  after_item_few (Leaf i) old new e = let l : suc (length old) ≡ length new = ap length (same_some _ _ e) in omega (arith, l)
  after_item_few Not [] new e = cc
  after_item_few Not (a ∷ old) new e = let l : suc (length old) ≡ length new = ap length (same_some _ _ e) in omega (arith, l)
  after_item_few And [] new e = cc
  after_item_few And (b ∷ []) new e = cc
  after_item_few And (b ∷ a ∷ old) new e = let l : suc (length old) ≡ length new = ap length (same_some _ _ e) in omega (arith, l)
  after_item_few Or [] new e = cc
  after_item_few Or (b ∷ []) new e = cc
  after_item_few Or (b ∷ a ∷ old) new e = let l : suc (length old) ≡ length new = ap length (same_some _ _ e) in omega (arith, l)

-- the first k items were put, and left these operands
pub record Walked (leaves : ℕ) (items : List Item) (k : ℕ) (operands : List ℕ) : Type 0 where
  pub found : after_items depth_operators (take k items) [] ≡ Some operands
  pub named : list_all (names_below leaves) (take k items) ≡ true
  pub low : All (λ d. d ≤ 65) operands
  pub few : length operands ≤ k
  pub fine : (j : ℕ) → j < k → not (stands leaves (take (j + 1) items)) ≡ false

module _ (leaves : ℕ) (items : List Item) (k : ℕ) (d : Item) (l : k < length items) (old : List ℕ) (w : Walked leaves items k old) where
  one_more : take (k + 1) items ≡ take k items ++ get_or items k d ∷ []
  one_more = take_more items k d l

  found_next : after_items depth_operators (take (k + 1) items) [] ≡ after_item depth_operators (get_or items k d) old
  found_next =
      ap (λ xs. after_items depth_operators xs []) one_more ∙ after_items-append depth_operators (take k items) (get_or items k d ∷ []) [] ∙ ap (option_and_then (after_items depth_operators (get_or items k d ∷ []))) w.found ∙ then_itself (after_item depth_operators (get_or items k d) old)

  named_next : list_all (names_below leaves) (take (k + 1) items) ≡ names_below leaves (get_or items k d)
  named_next = ap (list_all (names_below leaves)) one_more ∙ list_all-append (names_below leaves) (take k items) (get_or items k d ∷ []) ∙ ap (λ b. b && (names_below leaves (get_or items k d) && true)) w.named ∙ and-true (names_below leaves (get_or items k d))

  pub stands_next : stands leaves (take (k + 1) items) ≡ (names_below leaves (get_or items k d) && are_low (after_item depth_operators (get_or items k d) old))
  stands_next = rw (named_next, found_next) refl

  pub walked_next : (new : List ℕ) → (names_below leaves (get_or items k d) && are_low (after_item depth_operators (get_or items k d) old)) ≡ true → after_item depth_operators (get_or items k d) old ≡ Some new → Walked leaves items (k + 1) new
  walked_next new good put =
      let parts = and_parts (names_below leaves (get_or items k d)) (are_low (after_item depth_operators (get_or items k d) old)) good in
      let low : list_all is_low new ≡ true = rw put at parts.1 in
      record {
        found = found_next ∙ put;
        named = named_next ∙ parts.0;
        low = (low_decides new).0 low;
        few = omega (arith, after_item_few depth_operators (get_or items k d) old new put, w.few);
        fine = λ j m. at j m (cases_eq j k);
      }
    where
      at : (j : ℕ) → j < k + 1 → (j ≡ k) ⊎ (j ≡ k → ⊥) → not (stands leaves (take (j + 1) items)) ≡ false
      at j m (inl e) = subst (λ (n : ℕ). not (stands leaves (take (n + 1) items)) ≡ false) (sym e) (ap not (stands_next ∙ good))
      at j m (inr ne) = w.fine j (omega arith)

  pub fault_here : (names_below leaves (get_or items k d) && are_low (after_item depth_operators (get_or items k d) old)) ≡ false → fault_of_combination leaves items ≡ Some (combination.Item k)
  fault_here bad =
      ap (λ o. first_of (option_map combination.Item o ∷ unless (operands_left items == 1) (combination.Open (operands_left items)) ∷ []))
      (found_below (length items) (λ k. not (stands leaves (take (k + 1) items))) k l w.fine (ap not (stands_next ∙ bad)))

-- after all items, either one operand is left or the number of operands is the fault
pub fault_at_end : (leaves : ℕ) (items : List Item) (k : ℕ) (operands : List ℕ) → length items ≤ k → Walked leaves items k operands → fault_of_combination leaves items ≡ unless (length operands == 1) (combination.Open (length operands))
fault_at_end leaves items k operands l w =
    let all : take k items ≡ items = take_all k items l in
    let left : operands_left items ≡ length operands = ap (λ xs. option_map_or length (after_items depth_operators xs []) 0) (sym all) ∙ ap (λ o. option_map_or length o 0) w.found in
    ap (λ o. first_of (option_map combination.Item o ∷ unless (operands_left items == 1) (combination.Open (operands_left items)) ∷ [])) ((none_below (length items) (λ k. not (stands leaves (take (k + 1) items)))).1 (λ j m. w.fine j (omega arith)))
    ∙ ap (λ n. first_of (unless (n == 1) (combination.Open n) ∷ [])) left
    ∙ alone (unless (length operands == 1) (combination.Open (length operands)))
  where
    alone : {F : Type 0} (o : Option F) → first_of (o ∷ []) ≡ o
    alone None = refl
    alone (Some f) = refl
