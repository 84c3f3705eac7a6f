-- A net whose leaves break no rule breaks none itself exactly when its names are well-formed, its numbers in range,
-- and its combination is one tree.
use Rattle.std.proofs.Common.{◌≡◌, ◌≤◌, Bool, true, false, not, nat_lt, length, List, [], ◌∷◌, refl, ap, sym, ◌∙◌, arith}
use Rattle.std.specs.Prelude.{None, All, IsSomeAnd, ◌==◌, position, if◌then◌else◌}
use Rattle.std.proofs.lemmas.List.Folds.{list_any_none, list_any_at}
use Rattle.std.proofs.lemmas.Bool.{not-true, false≢true, false_from_ne_true, ltb-true, ltb-false}
use Rattle.std.proofs.lemmas.Bool.Decides.{Decides-eqb}
use Rattle.std.proofs.Math.Bool.{not-not}
use Rattle.pop_io.specs.Names.{AreNames, variable_name}
use Rattle.pop_leaf.specs.declared.item.Item.{Item}
use Rattle.pop_net.specs.declared.fault.NetFault.{NetFault}
use Rattle.pop_net.specs.declared.fault.NetFault.TheVariants as fault
use Rattle.pop_leaf.specs.LeafModel.{LeafModel, IsLeaf}
use Rattle.pop_io.specs.declared.names.TheConstants.{VARIABLE_LIMIT}
use Rattle.pop_leaf.specs.declared.limits.TheConstants.{LEAF_LIMIT, ITEM_LIMIT, WIDE_LEAF_LIMIT, DEPTH_LIMIT}
use Rattle.pop_leaf.specs.NetModel.{NetModel, IsNet, combined, depth_operators, number_of_helpers, is_wide_leaf, is_wide}
use Rattle.pop_net.specs.NetFaults.{fault_of_net, net_fault, first_wide_leaf, IsTree, RefusesNet}
use Rattle.pop_leaf.proofs.FirstFault.{NoneIff, first_of-nil, first_of-cons, none_unless, none_map, none_position, none_bad}
use Rattle.pop_leaf.proofs.LeafFaults.{within}
use Rattle.pop_net.proofs.Whole.{none_broken}

-- the first wide leaf
first_wide : (leaves : List LeafModel) → NoneIff (position is_wide_leaf leaves) (is_wide leaves ≡ false)
first_wide leaves = (there, back)
  where
    all : NoneIff (position (λ leaf. not (not (is_wide_leaf leaf))) leaves) (All (λ leaf. is_wide_leaf leaf ≡ false) leaves)
    all = none_position (λ leaf. not (is_wide_leaf leaf)) (λ leaf. is_wide_leaf leaf ≡ false) (λ leaf. (λ e. not-true _ e, λ e. ap not e)) leaves

    same : position (λ leaf. not (not (is_wide_leaf leaf))) leaves ≡ position is_wide_leaf leaves
    same = ap (λ p. position p leaves) (λ i leaf. not-not (is_wide_leaf leaf) i)

    there : position is_wide_leaf leaves ≡ None → is_wide leaves ≡ false
    there e = list_any_none is_wide_leaf leaves (all.0 (same ∙ e))

    back : is_wide leaves ≡ false → position is_wide_leaf leaves ≡ None
    back e = sym same ∙ all.1 (λ k d l. false_from_ne_true _ (λ t. false≢true (sym e ∙ list_any_at is_wide_leaf leaves k d l t)))

pub none_wide : (leaves : List LeafModel) → NoneIff (first_wide_leaf leaves) (is_wide leaves ≡ true → length leaves ≤ WIDE_LEAF_LIMIT)
none_wide leaves = go (nat_lt WIDE_LEAF_LIMIT (length leaves)) refl
  where
    go : (many : Bool) → nat_lt WIDE_LEAF_LIMIT (length leaves) ≡ many → NoneIff (if many then position is_wide_leaf leaves else None) (is_wide leaves ≡ true → length leaves ≤ WIDE_LEAF_LIMIT)
    go true e = (
      λ none wide. absurd (false≢true (sym ((first_wide leaves).0 none) ∙ wide)),
      λ few. (first_wide leaves).1 (false_from_ne_true _ (λ wide. let f = few wide in let m = ltb-true WIDE_LEAF_LIMIT (length leaves) e in omega (arith, f, m))),
    )
    go false e = (λ _ _. ltb-false WIDE_LEAF_LIMIT (length leaves) e, λ _. refl)

abbrev KeepsRules : NetModel → Type 0
KeepsRules net =
    ((1 ≤ length net.variables) × (length net.variables ≤ VARIABLE_LIMIT)) × (AreNames variable_name net.variables × (((1 ≤ length net.leaves) × (length net.leaves ≤ LEAF_LIMIT))
    × (All (λ (leaf : LeafModel). length leaf.inputs ≡ length net.variables) net.leaves × (((1 ≤ length net.combine) × (length net.combine ≤ ITEM_LIMIT)) × (IsTree (length net.leaves) net.combine
    × (All (λ (leaf : LeafModel). length leaf.helpers ≡ number_of_helpers net) net.leaves × ((is_wide net.leaves ≡ true → length net.leaves ≤ WIDE_LEAF_LIMIT) × Unit {0})))))))

rules_of : (net : NetModel) → NoneIff (fault_of_net net) (KeepsRules net)
rules_of net =
    first_of-cons _ _ (none_unless _ _ (within 1 VARIABLE_LIMIT (length net.variables)))
    (first_of-cons _ _ (none_map fault.VarName _ (none_bad variable_name net.variables))
    (first_of-cons _ _ (none_unless _ _ (within 1 LEAF_LIMIT (length net.leaves)))
    (first_of-cons _ _ (none_map fault.LeafInputs _ (none_position (λ (leaf : LeafModel). length leaf.inputs == length net.variables) (λ (leaf : LeafModel). length leaf.inputs ≡ length net.variables) (λ leaf. Decides-eqb (length leaf.inputs) (length net.variables)) net.leaves))
    (first_of-cons _ _ (none_unless _ _ (within 1 ITEM_LIMIT (length net.combine)))
    (first_of-cons _ _ (none_map net_fault _ (none_broken (length net.leaves) net.combine))
    (first_of-cons _ _ (none_map fault.LeafHelpers _ (none_position (λ (leaf : LeafModel). length leaf.helpers == number_of_helpers net) (λ (leaf : LeafModel). length leaf.helpers ≡ number_of_helpers net) (λ leaf. Decides-eqb (length leaf.helpers) (number_of_helpers net)) net.leaves))
    (first_of-cons _ _ (none_map fault.Wide _ (none_wide net.leaves)) first_of-nil)))))))

-- a net that breaks no rule, of leaves that break none
pub unbroken_net : (net : NetModel) → All IsLeaf net.leaves → fault_of_net net ≡ None → IsNet net
unbroken_net net leaves e =
    let k = (rules_of net).0 e in
    record {
      variable_names = k.1.0;
      some_variable = k.0.0;
      variables = k.0.1;
      some_leaf = k.1.1.0.0;
      leaf_count = k.1.1.0.1;
      leaves = leaves;
      inputs = k.1.1.1.0;
      items = k.1.1.1.1.0.1;
      leaf_numbers = k.1.1.1.1.1.0.named;
      depth = k.1.1.1.1.1.0.depth;
      helpers = k.1.1.1.1.1.1.0;
      wide = k.1.1.1.1.1.1.1.0;
    }

pub some_item : (items : List Item) → IsSomeAnd (combined depth_operators items) (λ d. d ≤ DEPTH_LIMIT) → 1 ≤ length items
some_item [] h = absurd h
some_item (item ∷ items) h = omega arith

-- a net that keeps the rules breaks none
pub right_net : (net : NetModel) (f : NetFault) → RefusesNet net f → IsNet net → ⊥
right_net net f e h =
    let none = (rules_of net).1 ((h.some_variable, h.variables), (h.variable_names, ((h.some_leaf, h.leaf_count), (h.inputs, ((some_item net.combine h.depth, h.items), (record { named = h.leaf_numbers; depth = h.depth }, (h.helpers, (h.wide, tt)))))))) in
    cc
