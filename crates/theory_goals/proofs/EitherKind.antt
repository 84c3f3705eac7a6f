-- A leaf that falls silent has goals, and so has one that comes to sets of states that agents don't leave.
use Rattle.std.proofs.Common.{◌≡◌, ℕ, ◌*◌, ◌≤◌, max, Bool, true, false, List, ◌++◌, length, refl, ap, sym, subst, ◌∙◌, arith}
use Rattle.std.specs.Prelude.{Some, slice_get, slice_index_or, All}
use Rattle.std.proofs.Math.Nat as nat
use Rattle.std.specs.Option.{option_map}
use Rattle.std.proofs.lemmas.List.{length-map}
use Rattle.std.proofs.lemmas.List.Sorted.{IsPermutation-refl, IsPermutation-sym, IsPermutation-trans, All-permutation}
use Rattle.std.proofs.lemmas.Option.{slice_get_within, slice_get-map, same_Some}
use Rattle.pres_ast.specs.PredTree.{PredTree}
use Rattle.pres_ast.specs.PredicateValue.{predicate_value}
use Rattle.pop_leaf.specs.LeafModel.{LeafModel, IsLeaf}
use Rattle.pop_leaf.specs.NetModel.{NetModel, CrowdModel, IsTuple, IsNet, number_of_helpers}
use Rattle.pop_leaf.specs.InputCrowd.{IsInput, leaf_input_crowd}
use Rattle.pop_leaf.specs.Step.{LeafChange, LeafStep}
use Rattle.pop_net.proofs.Permutations.{terminal_permuted}
use Rattle.pop_net.proofs.Projection.{component}
use Rattle.cert_base.specs.declared.layer.Layer.{Layer}
use Rattle.cert_base.specs.ProofBound.{layers_bound}
use Rattle.cert_base.specs.ValidLayers.{ValidLayers}
use Rattle.cert_base.specs.Ends.{EndsRight}
use Rattle.cert_base.proofs.InRange.{end_in_range}
use Rattle.cert_layers.proofs.Termination.{leads-append, valid_layers-end}
use Rattle.theory_sets.specs.Reached.{IsAtGoal}
use Rattle.base_laws.proofs.Options.{item_within, same_value}
use Rattle.theory_goals.specs.OutputStable.{IsOutputStable}
use Rattle.theory_goals.specs.StablyRight.{IsStablyRight}
use Rattle.theory_goals.specs.LeafGoals.{IsLeafGoalFrom, IsLeafGoal, LeafPart, parts_bound, HasLeafGoals}
use Rattle.theory_goals.specs.Kinds.{ValueGoal, LeafKind, Silent, Stable, kind_bound, for_value, KindPart, IsSilentEnd, IsAtRest, EndsRightWithin, HoldsFrom, HoldsAt, ComesToRest, part_of, parts_of, ComeToRest}
use Rattle.theory_goals.specs.Laws.{MixedLeavesAreRight}
use Rattle.theory_goals.proofs.JoinedGoals.{output_stable}
use Rattle.theory_goals.proofs.Right.{join_right}

-- ---- a silent leaf

module _ (leaf : LeafModel) (tree : PredTree) (k : ℕ) (ends : EndsRightWithin leaf tree k) (counts : List ℕ) (input : IsInput (length leaf.inputs) (length leaf.helpers) counts) where
  abbrev start : List ℕ
  start = leaf_input_crowd leaf counts

  silent_right : (crowd : List ℕ) → IsSilentEnd leaf start crowd → All (λ q. slice_index_or leaf.outputs q false ≡ predicate_value tree counts) crowd
  silent_right crowd at =
      let before = terminal_permuted (LeafChange leaf) crowd at.other at.terminal (IsPermutation-sym at.other crowd at.order) in
      let right = ends.right in
      All-permutation (λ q. slice_index_or leaf.outputs q false ≡ predicate_value tree counts) at.other crowd at.order
      (right (predicate_value tree counts) counts at.other input refl at.reached before)

  silent_goal : IsLeafGoalFrom leaf (predicate_value tree counts) k start (IsSilentEnd leaf start)
  silent_goal =
      record {
        reached = λ crowd r.
            let to = ends.ends counts crowd input r in (
              to.0,
              record {
                other = to.0;
                reached = (r.0 ++ to.2.0, leads-append (LeafStep leaf) start r.0 crowd to.2.0 to.0 r.1 to.2.2);
                order = IsPermutation-refl to.0;
                terminal = to.1;
              },
              to.2,
            );
        closed = λ before after at s. subst (IsSilentEnd leaf start) (sym (at.terminal after s)) at;
        right = silent_right;
        unordered = λ crowd other at order.
            record {
              other = at.other;
              reached = at.reached;
              order = IsPermutation-trans at.other crowd other at.order order;
              terminal = terminal_permuted (LeafChange leaf) crowd other at.terminal order;
            };
      }

-- valid layers, and no wrong end
layers_end : (leaf : LeafModel) (layers : List Layer) (tree : PredTree) → IsLeaf leaf → ValidLayers leaf layers → EndsRight leaf tree true → EndsRight leaf tree false → EndsRightWithin leaf tree (layers_bound layers)
layers_end leaf layers tree is valid on_true on_false =
    record {
      ends = λ counts crowd input r.
          let to = valid_layers-end leaf layers is valid crowd (end_in_range leaf is counts r.0 crowd input.one_each r.1) in
          (to.end, to.terminal, to.reached);
      right = λ value. by_value value;
    }
  where
    by_value : (value : Bool) → EndsRight leaf tree value
    by_value true = on_true
    by_value false = on_false

-- ---- a leaf with sets

stable_goal : (leaf : LeafModel) (tree : PredTree) (on_true on_false : ValueGoal) → HoldsAt leaf tree true on_true → HoldsAt leaf tree false on_false → IsLeafGoal leaf tree (kind_bound (Stable on_true on_false)) (IsAtRest leaf tree (Stable on_true on_false))
stable_goal leaf tree on_true on_false holds holds_not counts input = by_value (predicate_value tree counts) refl
  where
    start : List ℕ
    start = leaf_input_crowd leaf counts

    within : (value : Bool) (goal : ValueGoal) → goal.bound ≤ max on_true.bound on_false.bound → HoldsFrom leaf value goal start → IsLeafGoalFrom leaf value (max on_true.bound on_false.bound) start (IsAtGoal leaf goal.moves goal.sets start)
    within value goal low at = record {
      reached = λ crowd r.
          let come = at.come in
          let to = come crowd r in
          let short = to.2.1 in
          let more : goal.bound * length crowd ≤ max on_true.bound on_false.bound * length crowd = nat.mul-le-mul_right (length crowd) low in
          (to.0, to.1, (to.2.0, nat.le_trans short more, to.2.2));
      closed = at.stay.closed;
      right = at.stay.right;
      unordered = at.stay.unordered;
    }

    by_value : (value : Bool) → predicate_value tree counts ≡ value → IsLeafGoalFrom leaf value (max on_true.bound on_false.bound) start (λ crowd. let goal = for_value on_true on_false value in IsAtGoal leaf goal.moves goal.sets start crowd)
    by_value true e = within true on_true (omega arith) (holds counts input e)
    by_value false e = within false on_false (omega arith) (holds_not counts input e)

-- ---- either kind

kind_goal : (leaf : LeafModel) (tree : PredTree) (kind : LeafKind) → ComesToRest leaf tree kind → IsLeafGoal leaf tree (kind_bound kind) (IsAtRest leaf tree kind)
kind_goal leaf tree (Silent bound) ends counts input = silent_goal leaf tree bound ends counts input
kind_goal leaf tree (Stable on_true on_false) holds counts input =
    stable_goal leaf tree on_true on_false holds.0 holds.1 counts input

-- a set with the same crowds
same_crowds : (leaf : LeafModel) (value : Bool) (k : ℕ) (from_here : List ℕ) (Goal Other : List ℕ → Type 0) → ((c : List ℕ) → Goal c → Other c) → ((c : List ℕ) → Other c → Goal c) → IsLeafGoalFrom leaf value k from_here Goal → IsLeafGoalFrom leaf value k from_here Other
same_crowds leaf value k from_here Goal Other to from goal =
    record {
      reached = λ crowd r. let e = goal.reached crowd r in (e.0, to e.0 e.1, e.2);
      closed = λ before after at s. to after (goal.closed before after (from before at) s);
      right = λ crowd at. goal.right crowd (from crowd at);
      unordered = λ crowd other at order. to other (goal.unordered crowd other (from crowd at) order);
    }

module _ (net : NetModel) (tree : PredTree) (kinds : List KindPart) (come : ComeToRest net tree kinds) where
  -- the leaf with this number is at rest
  RestAt : ℕ → List ℕ → List ℕ → Type 0
  RestAt i counts crowd =
      (leaf : LeafModel) (kind : KindPart) → slice_get net.leaves i ≡ Some leaf → slice_get kinds i ≡ Some kind → IsAtRest leaf kind.tree kind.kind counts crowd

  rest_goal : (i : ℕ) (leaf : LeafModel) (kind : KindPart) → slice_get net.leaves i ≡ Some leaf → slice_get kinds i ≡ Some kind → IsLeafGoal leaf kind.tree (kind_bound kind.kind) (RestAt i)
  unfolding RestAt
  rest_goal i leaf kind h k counts input =
      same_crowds leaf (predicate_value kind.tree counts) (kind_bound kind.kind) (leaf_input_crowd leaf counts) (IsAtRest leaf kind.tree kind.kind counts) (RestAt i counts) to (λ c at. at leaf kind h k)
      (kind_goal leaf kind.tree kind.kind (come.leaves i leaf kind h k) counts input)
    where
      to : (c : List ℕ) → IsAtRest leaf kind.tree kind.kind counts c → RestAt i counts c
      to c at leaf' kind' h' k' =
          subst (λ (l : LeafModel). IsAtRest l kind'.tree kind'.kind counts c) (same_value (slice_get net.leaves i) leaf leaf' h h')
          (subst (λ (x : KindPart). IsAtRest leaf x.tree x.kind counts c) (same_value (slice_get kinds i) kind kind' k k') at)

  has_goals : HasLeafGoals net tree (parts_of kinds) RestAt
  has_goals =
      record {
        one_each = length-map kinds part_of ∙ come.one_each;
        leaves = λ i leaf part h k.
            let within = slice_get_within net.leaves i leaf h in
            let lengths = come.one_each in
            let kind = item_within kinds i (omega (arith, within, lengths)) in
            subst (λ (p : LeafPart). IsLeafGoal leaf p.tree p.bound (RestAt i)) (same_part i kind.0 part kind.1 k) (rest_goal i leaf kind.0 h kind.1);
        combination = come.combination;
      }
    where
      same_part : (i : ℕ) (kind : KindPart) (part : LeafPart) → slice_get kinds i ≡ Some kind → slice_get (parts_of kinds) i ≡ Some part → part_of kind ≡ part
      same_part i kind part h k =
          same_Some (part_of kind) part (sym (slice_get-map part_of kinds i ∙ ap (option_map part_of) h) ∙ k)

  -- where each leaf has come to rest, every agent outputs the predicate's value for ever
  pub rest_stable : IsNet net → (counts : List ℕ) → IsInput (length net.variables) (number_of_helpers net) counts → (crowd : CrowdModel) → All (IsTuple net) crowd → ((j : ℕ) (leaf : LeafModel) (kind : KindPart) → slice_get net.leaves j ≡ Some leaf → slice_get kinds j ≡ Some kind → IsAtRest leaf kind.tree kind.kind counts (component j crowd)) → IsOutputStable net (predicate_value tree counts) crowd
  unfolding RestAt
  rest_stable is counts input crowd tuples at =
      output_stable net is tree (parts_of kinds) RestAt has_goals counts input crowd
      (record { input = input; tuples = tuples; each = λ j leaf h. at j })

  kinds_right : IsNet net → IsStablyRight net tree (parts_bound (parts_of kinds))
  kinds_right is = join_right RestAt net tree (parts_of kinds) is has_goals

pub mixed_right : MixedLeavesAreRight
mixed_right = record {
  silent = layers_end;
  goals = kind_goal;
  right = λ net tree kinds is come. kinds_right net tree kinds come is;
}
