-- A net's combination read backwards from its end, compared with a predicate's tree.
use Rattle.std.proofs.Common.{◌≡◌, ℕ, zero, suc, ◌+◌, ◌-◌, ◌<◌, ◌≤◌, List, [], ◌∷◌, length, take, get_or, refl, ap, sym, subst, ◌∙◌, arith, add-one}
use Rattle.std.specs.Prelude.{◌≢◌, ◌↔◌, Option, Some, None, option_and_then, slice_get, All}
use Rattle.std.proofs.lemmas.List.{take_more, take_all}
use Rattle.std.proofs.lemmas.Option.{slice_get_within, get_or_from_slice_get}
use Rattle.pres_ast.specs.PredTree.{PredTree, Negation, Conjunction, Disjunction}
use Rattle.pop_leaf.specs.declared.item.Item.{Item}
use Rattle.pop_leaf.specs.declared.item.Item.TheVariants.{Leaf, Not, And, Or}
use Rattle.pop_leaf.specs.NetModel.{after_item, after_items, only_one, combined, NamesBelow}
use Rattle.pop_net.proofs.Trees.{after_items-append}
use Rattle.cert_base.specs.declared.proof.LeafProof.{LeafProof}
use Rattle.pop_checker.specs.Combination.{leaf_trees, open_after, IsBegin}
use Rattle.base_laws.proofs.Options.{then_itself, item_within}

module _ (parts : List LeafProof) (items : List Item) where
  -- the trees after one more item
  pub one_more_item : (k : ℕ) (item : Item) → slice_get items k ≡ Some item → open_after parts items (k + 1) ≡ option_and_then (after_item (leaf_trees parts) item) (open_after parts items k)
  one_more_item k item e =
      let within = slice_get_within items k item e in
      let here = get_or_from_slice_get items k item item e in
      ap (λ (xs : List Item). after_items (leaf_trees parts) xs []) (take_more items k item within)
      ∙ after_items-append (leaf_trees parts) (take k items) (get_or items k item ∷ []) []
      ∙ ap (λ (x : Item). option_and_then (after_items (leaf_trees parts) (x ∷ [])) (open_after parts items k)) here
      ∙ last (open_after parts items k)
    where
      last : (o : Option (List PredTree)) → option_and_then (after_items (leaf_trees parts) (item ∷ [])) o ≡ option_and_then (after_item (leaf_trees parts) item) o
      last None = refl
      last (Some operands) = then_itself (after_item (leaf_trees parts) item operands)

-- what an item makes of the trees that stand open
after_leaf : (parts : List LeafProof) (i : ℕ) (tree : PredTree) → (leaf_trees parts).leaf i ≡ tree → (o : Option (List PredTree)) (rest : List PredTree) → (option_and_then (after_item (leaf_trees parts) (Leaf i)) o ≡ Some (tree ∷ rest)) ↔ (o ≡ Some rest)
after_leaf parts i tree is None rest = ((λ e. absurd cc), (λ e. absurd cc))
after_leaf parts i tree is (Some ts) rest = ((λ e. cc), (λ e. cc))

after_other_leaf : (parts : List LeafProof) (i : ℕ) (tree : PredTree) → (leaf_trees parts).leaf i ≢ tree → (o : Option (List PredTree)) (rest : List PredTree) → option_and_then (after_item (leaf_trees parts) (Leaf i)) o ≢ Some (tree ∷ rest)
after_other_leaf parts i tree other None rest = λ e. absurd cc
after_other_leaf parts i tree other (Some ts) rest = λ e. other cc

after_not : (parts : List LeafProof) (p : PredTree) (o : Option (List PredTree)) (rest : List PredTree) → (option_and_then (after_item (leaf_trees parts) Not) o ≡ Some (Negation p ∷ rest)) ↔ (o ≡ Some (p ∷ rest))
after_not parts p None rest = ((λ e. absurd cc), (λ e. absurd cc))
after_not parts p (Some []) rest = ((λ e. absurd cc), (λ e. absurd cc))
after_not parts p (Some (t ∷ ts)) rest = ((λ e. cc), (λ e. cc))

after_and : (parts : List LeafProof) (p q : PredTree) (o : Option (List PredTree)) (rest : List PredTree) → (option_and_then (after_item (leaf_trees parts) And) o ≡ Some (Conjunction p q ∷ rest)) ↔ (o ≡ Some (q ∷ p ∷ rest))
after_and parts p q None rest = ((λ e. absurd cc), (λ e. absurd cc))
after_and parts p q (Some []) rest = ((λ e. absurd cc), (λ e. absurd cc))
after_and parts p q (Some (t ∷ [])) rest = ((λ e. absurd cc), (λ e. absurd cc))
after_and parts p q (Some (t ∷ u ∷ ts)) rest = ((λ e. cc), (λ e. cc))

after_or : (parts : List LeafProof) (p q : PredTree) (o : Option (List PredTree)) (rest : List PredTree) → (option_and_then (after_item (leaf_trees parts) Or) o ≡ Some (Disjunction p q ∷ rest)) ↔ (o ≡ Some (q ∷ p ∷ rest))
after_or parts p q None rest = ((λ e. absurd cc), (λ e. absurd cc))
after_or parts p q (Some []) rest = ((λ e. absurd cc), (λ e. absurd cc))
after_or parts p q (Some (t ∷ [])) rest = ((λ e. absurd cc), (λ e. absurd cc))
after_or parts p q (Some (t ∷ u ∷ ts)) rest = ((λ e. cc), (λ e. cc))

-- a tree that the item cannot make
abbrev pub Differs : Item → PredTree → Type 0
Differs (Leaf i) tree = ⊥
Differs Not tree = (p : PredTree) → tree ≢ Negation p
Differs And tree = (p q : PredTree) → tree ≢ Conjunction p q
Differs Or tree = (p q : PredTree) → tree ≢ Disjunction p q

after_other : (parts : List LeafProof) (item : Item) (tree : PredTree) → Differs item tree → (o : Option (List PredTree)) (rest : List PredTree) → option_and_then (after_item (leaf_trees parts) item) o ≢ Some (tree ∷ rest)
after_other parts (Leaf i) tree other o rest = absurd other
after_other parts Not tree other None rest = λ e. absurd cc
after_other parts Not tree other (Some []) rest = λ e. absurd cc
after_other parts Not tree other (Some (t ∷ ts)) rest = λ e. other t cc
after_other parts And tree other None rest = λ e. absurd cc
after_other parts And tree other (Some []) rest = λ e. absurd cc
after_other parts And tree other (Some (t ∷ [])) rest = λ e. absurd cc
after_other parts And tree other (Some (t ∷ u ∷ ts)) rest = λ e. other u t cc
after_other parts Or tree other None rest = λ e. absurd cc
after_other parts Or tree other (Some []) rest = λ e. absurd cc
after_other parts Or tree other (Some (t ∷ [])) rest = λ e. absurd cc
after_other parts Or tree other (Some (t ∷ u ∷ ts)) rest = λ e. other u t cc

-- two equivalences in a row
iff_then : {A B C : Type 0} → (A ↔ B) → (B ↔ C) → (A ↔ C)
iff_then f g = ((λ a. g.0 (f.0 a)), (λ c. f.1 (g.1 c)))

same_iff : {A : Type 0} (x y z : A) → x ≡ y → ((x ≡ z) ↔ (y ≡ z))
same_iff x y z e = ((λ h. sym e ∙ h), (λ h. e ∙ h))

module _ (parts : List LeafProof) (items : List Item) (k : ℕ) where
  pub leaf_begins : (i : ℕ) (tree : PredTree) → slice_get items k ≡ Some (Leaf i) → (leaf_trees parts).leaf i ≡ tree → IsBegin parts items (k + 1) tree (Some k)
  leaf_begins i tree at is =
      record {
        before = omega arith;
        same = λ rest. iff_then (same_iff _ _ (Some (tree ∷ rest)) (one_more_item parts items k (Leaf i) at)) (after_leaf parts i tree is (open_after parts items k) rest);
      }

  pub leaf_differs : (i : ℕ) (tree : PredTree) → slice_get items k ≡ Some (Leaf i) → (leaf_trees parts).leaf i ≢ tree → IsBegin parts items (k + 1) tree None
  leaf_differs i tree at other = λ rest e. after_other_leaf parts i tree other (open_after parts items k) rest (sym (one_more_item parts items k (Leaf i) at) ∙ e)

  pub other_differs : (item : Item) (tree : PredTree) → slice_get items k ≡ Some item → Differs item tree → IsBegin parts items (k + 1) tree None
  other_differs item tree at other = λ rest e. after_other parts item tree other (open_after parts items k) rest (sym (one_more_item parts items k item at) ∙ e)

  pub not_begins : (p : PredTree) (o : Option ℕ) → slice_get items k ≡ Some Not → IsBegin parts items k p o → IsBegin parts items (k + 1) (Negation p) o
  not_begins p None at begins = λ rest e. begins rest ((after_not parts p (open_after parts items k) rest).0 (sym (one_more_item parts items k Not at) ∙ e))
  not_begins p (Some m) at begins =
      record {
        before = omega (arith, begins.before);
        same = λ rest. iff_then (same_iff _ _ (Some (Negation p ∷ rest)) (one_more_item parts items k Not at)) (iff_then (after_not parts p (open_after parts items k) rest) (begins.same rest));
      }

  module _ (p q tree : PredTree) (item : Item) (at : slice_get items k ≡ Some item) (makes : (rest : List PredTree) → (option_and_then (after_item (leaf_trees parts) item) (open_after parts items k) ≡ Some (tree ∷ rest)) ↔ (open_after parts items k ≡ Some (q ∷ p ∷ rest))) where
    two_made : (rest : List PredTree) → (open_after parts items (k + 1) ≡ Some (tree ∷ rest)) ↔ (open_after parts items k ≡ Some (q ∷ p ∷ rest))
    two_made rest = iff_then (same_iff _ _ (Some (tree ∷ rest)) (one_more_item parts items k item at)) (makes rest)

    pub second_differs : IsBegin parts items k q None → IsBegin parts items (k + 1) tree None
    second_differs begins = λ rest e. begins (p ∷ rest) ((two_made rest).0 e)

    pub first_begins : (m : ℕ) (o : Option ℕ) → IsBegin parts items k q (Some m) → IsBegin parts items m p o → IsBegin parts items (k + 1) tree o
    first_begins m None second first = λ rest e. first rest ((second.same (p ∷ rest)).0 ((two_made rest).0 e))
    first_begins m (Some j) second first =
        record {
          before = omega (arith, second.before, first.before);
          same = λ rest. iff_then (two_made rest) (iff_then (second.same (p ∷ rest)) (first.same rest));
        }

  pub and_none : (p q : PredTree) → slice_get items k ≡ Some And → IsBegin parts items k q None → IsBegin parts items (k + 1) (Conjunction p q) None
  and_none p q at begins = second_differs p q (Conjunction p q) And at (after_and parts p q (open_after parts items k)) begins

  pub and_begins : (p q : PredTree) (m : ℕ) (o : Option ℕ) → slice_get items k ≡ Some And → IsBegin parts items k q (Some m) → IsBegin parts items m p o → IsBegin parts items (k + 1) (Conjunction p q) o
  and_begins p q m o at second first = first_begins p q (Conjunction p q) And at (after_and parts p q (open_after parts items k)) m o second first

  pub or_none : (p q : PredTree) → slice_get items k ≡ Some Or → IsBegin parts items k q None → IsBegin parts items (k + 1) (Disjunction p q) None
  or_none p q at begins = second_differs p q (Disjunction p q) Or at (after_or parts p q (open_after parts items k)) begins

  pub or_begins : (p q : PredTree) (m : ℕ) (o : Option ℕ) → slice_get items k ≡ Some Or → IsBegin parts items k q (Some m) → IsBegin parts items m p o → IsBegin parts items (k + 1) (Disjunction p q) o
  or_begins p q m o at second first = first_begins p q (Disjunction p q) Or at (after_or parts p q (open_after parts items k)) m o second first

-- no item leaves an empty list
never_empty : (parts : List LeafProof) (item : Item) (o : Option (List PredTree)) → option_and_then (after_item (leaf_trees parts) item) o ≢ Some []
never_empty parts item None = λ e. absurd cc
never_empty parts (Leaf i) (Some ts) = λ e. absurd cc
never_empty parts Not (Some []) = λ e. absurd cc
never_empty parts Not (Some (t ∷ ts)) = λ e. absurd cc
never_empty parts And (Some []) = λ e. absurd cc
never_empty parts And (Some (t ∷ [])) = λ e. absurd cc
never_empty parts And (Some (t ∷ u ∷ ts)) = λ e. absurd cc
never_empty parts Or (Some []) = λ e. absurd cc
never_empty parts Or (Some (t ∷ [])) = λ e. absurd cc
never_empty parts Or (Some (t ∷ u ∷ ts)) = λ e. absurd cc

none_closed : (parts : List LeafProof) (items : List Item) (k : ℕ) → k ≤ length items → open_after parts items k ≡ Some [] → k ≡ 0
none_closed parts items zero le e = refl
none_closed parts items (suc k) le e =
    let i = item_within items k (omega arith) in
    absurd (never_empty parts i.0 (open_after parts items k) (sym (one_more_item parts items k i.0 i.1) ∙ rw add-one e))

one_left : (o : Option (List PredTree)) (tree : PredTree) → (option_and_then only_one o ≡ Some tree) ↔ (o ≡ Some (tree ∷ []))
one_left None tree = ((λ e. absurd cc), (λ e. absurd cc))
one_left (Some []) tree = ((λ e. absurd cc), (λ e. absurd cc))
one_left (Some (t ∷ [])) tree = ((λ e. cc), (λ e. cc))
one_left (Some (t ∷ u ∷ ts)) tree = ((λ e. absurd cc), (λ e. absurd cc))

-- the whole combination is the tree exactly when the tree begins at the first item
pub whole_begins : (parts : List LeafProof) (items : List Item) (tree : PredTree) (o : Option ℕ) → IsBegin parts items (length items) tree o → (combined (leaf_trees parts) items ≡ Some tree) ↔ (o ≡ Some 0)
whole_begins parts items tree o begins =
    iff_then (one_left (after_items (leaf_trees parts) items []) tree)
    (iff_then (same_iff _ _ (Some (tree ∷ [])) (ap (λ (xs : List Item). after_items (leaf_trees parts) xs []) (sym (take_all (length items) items (omega arith))))) (at o begins))
  where
    at : (o : Option ℕ) → IsBegin parts items (length items) tree o → (open_after parts items (length items) ≡ Some (tree ∷ [])) ↔ (o ≡ Some 0)
    at None begins = ((λ e. absurd (begins [] e)), (λ e. absurd cc))
    at (Some k) begins = (
      (λ e. ap (λ (n : ℕ). Some n) (none_closed parts items k (omega (arith, begins.before)) ((begins.same []).0 e))),
      (λ e. (begins.same []).1 (let zero_k : k ≡ 0 = cc in rw zero_k refl)),
    )

pub named_below : (n : ℕ) (items : List Item) (k i : ℕ) → All (NamesBelow n) items → slice_get items k ≡ Some (Leaf i) → i < n
named_below n items k i all at =
    let within = slice_get_within items k (Leaf i) at in
    rw (get_or_from_slice_get items k (Leaf i) (Leaf i) at) at (all k (Leaf i) within)

-- the same for any end but 0, and for an equal tree
pub at_end : (parts : List LeafProof) (items : List Item) (end : ℕ) (tree other : PredTree) (o : Option ℕ) → (end ≡ 0 → ⊥) → tree ≡ other → IsBegin parts items ((end - 1) + 1) other o → IsBegin parts items end tree o
at_end parts items end tree other o some same begins =
    let whole : (end - 1) + 1 ≡ end = omega arith in
    rw same (subst (λ (n : ℕ). IsBegin parts items n other o) whole begins)
