-- A combination breaks no rule exactly when it is one tree within the depth limit, over leaves of the net.
use Rattle.std.proofs.Common.{◌≡◌, ℕ, ◌+◌, max, ◌<◌, ◌≤◌, true, false, not, List, [], ◌∷◌, length, take, drop, refl, ap, sym, ◌∙◌, arith}
use Rattle.std.specs.Prelude.{Option, Some, None, All, Decides, IsSomeAnd, option_and_then}
use Rattle.std.specs.List.{list_all}
use Rattle.std.specs.Option.{option_map_or}
use Rattle.std.proofs.lemmas.Bool.Decides.{Decides-by_and, Decides-ltb, Decides-eqb}
use Rattle.std.proofs.lemmas.Bool.{and_parts, and_from, not-false, not_from_true}
use Rattle.std.proofs.lemmas.List.{take_all, take-append-drop}
use Rattle.std.proofs.lemmas.List.Elements.{All-head, All-tail, All-cons, All-nil, All-take, All-same}
use Rattle.std.proofs.lemmas.Option.{same_Some}
use Rattle.pop_leaf.specs.declared.item.Item.{Item}
use Rattle.pop_leaf.specs.declared.item.Item.TheVariants.{Leaf, Not, And, Or}
use Rattle.pop_net.specs.declared.fault.CombinationFault.{CombinationFault}
use Rattle.pop_net.specs.declared.fault.CombinationFault.TheVariants as combination
use Rattle.pop_leaf.specs.NetModel.{after_item, after_items, depth_operators, only_one, combined, NamesBelow}
use Rattle.pop_net.specs.NetFaults.{names_below, are_low, stands, operands_left, IsTree, fault_of_combination}
use Rattle.pop_leaf.proofs.FirstFault.{NoneIff, first_of-nil, first_of-cons, none_unless, none_map, none_below}
use Rattle.pop_net.proofs.Trees.{low_decides, after_items-append}
use Rattle.base_laws.proofs.Options.{some_before, some_and}

name_below : (n : ℕ) (item : Item) → Decides (names_below n item) (NamesBelow n item)
name_below n (Leaf i) = Decides-ltb i n
name_below n Not = (λ _. tt, λ _. refl)
name_below n And = (λ _. tt, λ _. refl)
name_below n Or = (λ _. tt, λ _. refl)

all_named : (n : ℕ) (items : List Item) → Decides (list_all (names_below n) items) (All (NamesBelow n) items)
all_named n = Decides-by_and (names_below n) (NamesBelow n) (list_all (names_below n)) (name_below n) refl (λ _ _. refl)

abbrev pub AllLow : List ℕ → Type 0
AllLow xs = All (λ d. d ≤ 65) xs

-- operands of a low tree are low
low_before : (item : Item) (old new : List ℕ) → after_item depth_operators item old ≡ Some new → AllLow new → AllLow old
low_before (Leaf i) old new e h =
    let same : 1 ∷ old ≡ new = same_Some _ _ e in All-tail (λ d. d ≤ 65) 1 old (All-same (λ d. d ≤ 65) (1 ∷ old) new same h)
low_before Not [] new e h = cc
low_before Not (a ∷ old) new e h =
    let same : (a + 1) ∷ old ≡ new = same_Some _ _ e in
    let g : AllLow ((a + 1) ∷ old) = All-same (λ d. d ≤ 65) ((a + 1) ∷ old) new same h in
    let top : a + 1 ≤ 65 = All-head (λ d. d ≤ 65) (a + 1) old g in
    All-cons (λ d. d ≤ 65) a old (omega (arith, top)) (All-tail (λ d. d ≤ 65) (a + 1) old g)
low_before And [] new e h = cc
low_before And (b ∷ []) new e h = cc
low_before And (b ∷ a ∷ old) new e h = both (same_Some _ _ e) h
  where
    both : (max a b + 1) ∷ old ≡ new → AllLow new → AllLow (b ∷ a ∷ old)
    both same h =
        let g : AllLow ((max a b + 1) ∷ old) = All-same (λ d. d ≤ 65) ((max a b + 1) ∷ old) new same h in
        let top : max a b + 1 ≤ 65 = All-head (λ d. d ≤ 65) (max a b + 1) old g in
        All-cons (λ d. d ≤ 65) b (a ∷ old) (omega (arith, top)) (All-cons (λ d. d ≤ 65) a old (omega (arith, top)) (All-tail (λ d. d ≤ 65) (max a b + 1) old g))
low_before Or [] new e h = cc
low_before Or (b ∷ []) new e h = cc
low_before Or (b ∷ a ∷ old) new e h = both (same_Some _ _ e) h
  where
    both : (max a b + 1) ∷ old ≡ new → AllLow new → AllLow (b ∷ a ∷ old)
    both same h =
        let g : AllLow ((max a b + 1) ∷ old) = All-same (λ d. d ≤ 65) ((max a b + 1) ∷ old) new same h in
        let top : max a b + 1 ≤ 65 = All-head (λ d. d ≤ 65) (max a b + 1) old g in
        All-cons (λ d. d ≤ 65) b (a ∷ old) (omega (arith, top)) (All-cons (λ d. d ≤ 65) a old (omega (arith, top)) (All-tail (λ d. d ≤ 65) (max a b + 1) old g))

pub all_low_before : (items : List Item) (old new : List ℕ) → after_items depth_operators items old ≡ Some new → AllLow new → AllLow old
all_low_before [] old new e h = All-same (λ d. d ≤ 65) old new (same_Some _ _ e) h
all_low_before (item ∷ items) old new e h =
    let s = some_before (after_items depth_operators items) (after_item depth_operators item old) new e in
    low_before item old s.0 s.1 (all_low_before items s.0 new s.2 h)

pub one_left : {A : Type 0} (operands : List A) (d : A) → only_one operands ≡ Some d → operands ≡ d ∷ []
one_left [] d e = cc
one_left (a ∷ []) d e = ap (λ x. x ∷ []) (same_Some a d e)
one_left (a ∷ b ∷ operands) d e = cc

one_tree : (found : Option (List ℕ)) → are_low found ≡ true → option_map_or length found 0 ≡ 1 → IsSomeAnd (option_and_then only_one found) (λ d. d ≤ 65)
one_tree None low one = cc
one_tree (Some []) low one = absurd (omega (arith, one))
one_tree (Some (d ∷ [])) low one = All-head (λ d. d ≤ 65) d [] ((low_decides (d ∷ [])).0 low)
one_tree (Some (d ∷ e ∷ operands)) low one = absurd (omega (arith, one))

-- if the whole is a tree, all its prefixes pass `stands`
front_stands : (leaves : ℕ) (items : List Item) (n : ℕ) → IsTree leaves items → stands leaves (take n items) ≡ true
front_stands leaves items n t =
    let d = some_and (combined depth_operators items) (λ d. d ≤ 65) t.depth in
    let s = some_before only_one (after_items depth_operators items []) d.0 d.1 in
    let one = one_left s.0 d.0 s.2 in
    let cut : option_and_then (after_items depth_operators (drop n items)) (after_items depth_operators (take n items) []) ≡ Some (d.0 ∷ []) =
    sym (after_items-append depth_operators (take n items) (drop n items) []) ∙ ap (λ xs. after_items depth_operators xs []) (take-append-drop n items) ∙ s.1 ∙ ap Some one in
    let f = some_before (after_items depth_operators (drop n items)) (after_items depth_operators (take n items) []) (d.0 ∷ []) cut in
    let low = all_low_before (drop n items) f.0 (d.0 ∷ []) f.2 (All-cons (λ d. d ≤ 65) d.0 [] d.2 (All-nil (λ d. d ≤ 65))) in
    and_from _ _ ((all_named leaves (take n items)).1 (All-take (NamesBelow leaves) n items t.named)) (ap are_low f.1 ∙ (low_decides f.0).1 low)

one_operand : (leaves : ℕ) (items : List Item) → IsTree leaves items → operands_left items ≡ 1
one_operand leaves items t =
    let d = some_and (combined depth_operators items) (λ d. d ≤ 65) t.depth in
    let s = some_before only_one (after_items depth_operators items []) d.0 d.1 in
    ap (λ o. option_map_or length o 0) (s.1 ∙ ap Some (one_left s.0 d.0 s.2))

pub none_broken : (leaves : ℕ) (items : List Item) → NoneIff (fault_of_combination leaves items) (IsTree leaves items)
none_broken leaves items = (there items, back)
  where
    both : (items : List Item) → NoneIff (fault_of_combination leaves items) (((k : ℕ) → k < length items → not (stands leaves (take (k + 1) items)) ≡ false) × ((operands_left items ≡ 1) × Unit {0}))
    both items =
        first_of-cons _ _ (none_map combination.Item _ (none_below (length items) (λ k. not (stands leaves (take (k + 1) items)))))
        (first_of-cons _ _ (none_unless _ _ (Decides-eqb (operands_left items) 1)) first_of-nil)

    there : (items : List Item) → fault_of_combination leaves items ≡ None → IsTree leaves items
    there [] e = absurd (omega (arith, ((both []).0 e).1.0))
    there (item ∷ rest) e =
        let b = (both (item ∷ rest)).0 e in
        let whole : stands leaves (item ∷ rest) ≡ true =
        ap (stands leaves) (sym (take_all (length rest + 1) (item ∷ rest) (omega arith))) ∙ not-false _ (b.0 (length rest) (omega arith)) in
        let parts = and_parts (list_all (names_below leaves) (item ∷ rest)) (are_low (after_items depth_operators (item ∷ rest) [])) whole in
        record {
          named = (all_named leaves (item ∷ rest)).0 parts.0;
          depth = one_tree (after_items depth_operators (item ∷ rest) []) parts.1 b.1.0;
        }

    back : IsTree leaves items → fault_of_combination leaves items ≡ None
    back t = (both items).1 ((λ k l. not_from_true _ (front_stands leaves items (k + 1) t)), (one_operand leaves items t, tt))

-- there is no fault exactly when there is one tree
pub none_where_tree : (leaves : ℕ) (items : List Item) (result : Option CombinationFault) → result ≡ fault_of_combination leaves items → NoneIff result (IsTree leaves items)
none_where_tree leaves items result h =
    ((λ e. (none_broken leaves items).0 (sym h ∙ e)), (λ t. h ∙ (none_broken leaves items).1 t))
