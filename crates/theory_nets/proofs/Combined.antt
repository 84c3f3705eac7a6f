-- If each leaf outputs its predicate's value, an agent outputs the value of the combined predicate.
use Rattle.std.proofs.Common.{◌≡◌, ℕ, zero, suc, pred, Bool, false, List, [], ◌∷◌, length, map, get_or, refl, ap, sym, ◌∙◌, arith}
use Rattle.std.specs.Prelude.{Option, Some, None, pos, slice_get, slice_index_or, option_and_then, unwrap_or, All}
use Rattle.std.proofs.lemmas.List.Elements.{All-head, All-tail}
use Rattle.std.proofs.lemmas.Option.{slice_get-get_or}
use Rattle.pres_ast.specs.PredTree.{PredTree, LessThan, Negation, Conjunction, Disjunction}
use Rattle.pres_ast.specs.PredicateValue.{predicate_value}
use Rattle.pop_leaf.specs.declared.item.Item.{Item}
use Rattle.pop_leaf.specs.declared.item.Item.TheVariants.{Leaf, Not, And, Or}
use Rattle.pop_leaf.specs.LeafModel.{LeafModel}
use Rattle.pop_leaf.specs.NetModel.{NetModel, Tuple, IsTuple, IsNet, state_of, after_item, after_items, only_one, combined, leaf_outputs, truth, output_of, NamesBelow}
use Rattle.pop_leaf.proofs.Quiet.{nothing}
use Rattle.pop_net.proofs.Whole.{one_left}
use Rattle.cert_base.specs.ValidProof.{trees}
use Rattle.base_laws.proofs.Options.{item_within}

-- ---- the combination of the leaves' outputs is the value of the combined tree

module _ (counts : List ℕ) (parts : List PredTree) (outputs : List Bool) where
  -- the leaf that an item names outputs its predicate's value
  abbrev Agrees : Item → Type 0
  Agrees (Leaf i) = slice_index_or outputs i false ≡ predicate_value (slice_index_or parts i (LessThan [] (pos 0))) counts
  Agrees Not = Unit {0}
  Agrees And = Unit {0}
  Agrees Or = Unit {0}

  abbrev values : List PredTree → List Bool
  values operands = map (λ tree. predicate_value tree counts) operands

  item_value : (item : Item) (operands after : List PredTree) → Agrees item → after_item (trees parts) item operands ≡ Some after → after_item (truth outputs) item (values operands) ≡ Some (values after)
  item_value (Leaf i) operands after agrees e =
      let same : (slice_index_or parts i (LessThan [] (pos 0))) ∷ operands ≡ after = cc in
      ap (λ b. Some (b ∷ values operands)) agrees ∙ ap (λ (o : List PredTree). Some (values o)) same
  item_value Not [] after agrees e = cc
  item_value Not (a ∷ operands) after agrees e =
      let same : Negation a ∷ operands ≡ after = cc in
      ap (λ (o : List PredTree). Some (values o)) same
  item_value And [] after agrees e = cc
  item_value And (b ∷ []) after agrees e = cc
  item_value And (b ∷ a ∷ operands) after agrees e =
      let same : Conjunction a b ∷ operands ≡ after = cc in
      ap (λ (o : List PredTree). Some (values o)) same
  item_value Or [] after agrees e = cc
  item_value Or (b ∷ []) after agrees e = cc
  item_value Or (b ∷ a ∷ operands) after agrees e =
      let same : Disjunction a b ∷ operands ≡ after = cc in
      ap (λ (o : List PredTree). Some (values o)) same

  items_value : (items : List Item) (operands after : List PredTree) → All Agrees items → after_items (trees parts) items operands ≡ Some after → after_items (truth outputs) items (values operands) ≡ Some (values after)
  items_value [] operands after agrees e =
      let same : operands ≡ after = cc in ap (λ (o : List PredTree). Some (values o)) same
  items_value (item ∷ items) operands after agrees e =
      go (λ next r. items_value items next after (All-tail Agrees item items agrees) r) (after_item (trees parts) item operands) refl
    where
      go : ((next : List PredTree) → after_items (trees parts) items next ≡ Some after → after_items (truth outputs) items (values next) ≡ Some (values after)) → (o : Option (List PredTree)) → after_item (trees parts) item operands ≡ o → after_items (truth outputs) (item ∷ items) (values operands) ≡ Some (values after)
      go more None is = let clash : None ≡ Some after = sym (ap (option_and_then (after_items (trees parts) items)) is) ∙ e in cc
      go more (Some next) is =
          let first = item_value item operands next (All-head Agrees item items agrees) is in
          let rest : after_items (trees parts) items next ≡ Some after = sym (ap (option_and_then (after_items (trees parts) items)) is) ∙ e in
          ap (option_and_then (after_items (truth outputs) items)) first ∙ more next rest

  combined_value : (items : List Item) (tree : PredTree) → All Agrees items → combined (trees parts) items ≡ Some tree → combined (truth outputs) items ≡ Some (predicate_value tree counts)
  combined_value items tree agrees e = go (after_items (trees parts) items []) refl
    where
      go : (o : Option (List PredTree)) → after_items (trees parts) items [] ≡ o → combined (truth outputs) items ≡ Some (predicate_value tree counts)
      go None is = let clash : None ≡ Some tree = sym (ap (option_and_then only_one) is) ∙ e in cc
      go (Some after) is =
          let one : only_one after ≡ Some tree = sym (ap (option_and_then only_one) is) ∙ e in
          let all = items_value items [] after agrees is in
          ap (option_and_then only_one) (all ∙ ap (λ (o : List PredTree). Some (values o)) (one_left after tree one))

-- ---- one agent

output_at : (leaves : List LeafModel) (x : Tuple) (i : ℕ) (leaf : LeafModel) → length x ≡ length leaves → slice_get leaves i ≡ Some leaf → slice_index_or (leaf_outputs leaves x) i false ≡ slice_index_or leaf.outputs (state_of x i) false
output_at [] x i leaf e h = cc
output_at (first ∷ leaves) [] i leaf e h = absurd (omega (arith, e))
output_at (first ∷ leaves) (p ∷ x) zero leaf e h =
    let same : first ≡ leaf = cc in ap (λ (l : LeafModel). slice_index_or l.outputs p false) same
output_at (first ∷ leaves) (p ∷ x) (suc i) leaf e h = output_at leaves x i leaf (ap pred e) h

pub tree_at : {P : Type 0} (tree_of : P → PredTree) (parts : List P) (i : ℕ) (part : P) (other : PredTree) → slice_get parts i ≡ Some part → slice_index_or (map tree_of parts) i other ≡ tree_of part
tree_at tree_of [] i part other h = cc
tree_at tree_of (first ∷ parts) zero part other h = let same : first ≡ part = cc in ap tree_of same
tree_at tree_of (first ∷ parts) (suc i) part other h = tree_at tree_of parts i part other h

module _ (net : NetModel) (is : IsNet net) (counts : List ℕ) (P : Type 0) (tree_of : P → PredTree) (parts : List P) (one_each : length parts ≡ length net.leaves) (x : Tuple) (tuple : IsTuple net x) where
  -- each leaf outputs its predicate's value in the agent's state
  abbrev pub AreRight : Type 0
  AreRight = (i : ℕ) (leaf : LeafModel) (part : P) → slice_get net.leaves i ≡ Some leaf → slice_get parts i ≡ Some part → slice_index_or leaf.outputs (state_of x i) false ≡ predicate_value (tree_of part) counts

  item_agrees : AreRight → (item : Item) → NamesBelow (length net.leaves) item → Agrees counts (map tree_of parts) (leaf_outputs net.leaves x) item
  item_agrees right (Leaf i) l =
      let leaf = get_or net.leaves i nothing in
      let h : slice_get net.leaves i ≡ Some leaf = slice_get-get_or net.leaves i nothing l in
      let part = item_within parts i (omega (arith, l, one_each)) in
      output_at net.leaves x i leaf tuple h
      ∙ right i leaf part.0 h part.1
      ∙ ap (λ (t : PredTree). predicate_value t counts) (sym (tree_at tree_of parts i part.0 (LessThan [] (pos 0)) part.1))
  item_agrees right Not l = tt
  item_agrees right And l = tt
  item_agrees right Or l = tt

  pub agent_right : AreRight → (tree : PredTree) → combined (trees (map tree_of parts)) net.combine ≡ Some tree → output_of net x ≡ predicate_value tree counts
  agent_right right tree combines =
      ap (λ (o : Option Bool). unwrap_or o false)
      (combined_value counts (map tree_of parts) (leaf_outputs net.leaves x) net.combine tree
      (λ k d l. item_agrees right (get_or net.combine k d) (is.leaf_numbers k d l)) combines)
