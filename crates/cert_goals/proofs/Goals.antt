-- The crowds of a goal: no step leaves them, and in them every agent has the value as its output.
use Rattle.std.proofs.Common.{◌≡◌, ◌⊎◌, inl, inr, ℕ, Bool, false, List, ◌++◌, length, get_or}
use Rattle.std.specs.Prelude.{All, Contains, slice_index_or}
use Rattle.std.proofs.lemmas.List.Elements.{All-contains}
use Rattle.std.proofs.lemmas.List.Sorted.{IsPermutation-refl, IsPermutation-sym, All-permutation}
use Rattle.std.proofs.lemmas.Option.{get_or_from_slice_get}
use Rattle.pop_leaf.specs.LeafModel.{LeafModel, IsLeaf}
use Rattle.pop_leaf.specs.InputCrowd.{leaf_input_crowd, IsInput}
use Rattle.pop_leaf.specs.Step.{LeafStep}
use Rattle.pop_leaf.specs.Reachable.{Reachable}
use Rattle.cert_base.specs.declared.layer.Layer.{Layer}
use Rattle.cert_base.specs.ProofBound.{layers_bound}
use Rattle.cert_base.specs.GoalEnds.{IsWithin, IsWithinOne}
use Rattle.cert_base.specs.ValidLayers.{moves_of_layers, ValidLayers}
use Rattle.cert_base.proofs.InRange.{end_in_range}
use Rattle.cert_layers.proofs.Termination.{leads-append, valid_layers-end}
use Rattle.pop_leaf.proofs.HushedMoves.{hushed_formed}
use Rattle.theory_sets.specs.Stays.{IsGuarded, SleepIn}
use Rattle.theory_sets.specs.Reached.{IsDeadFor, IsGoalEnd, IsAtGoal}
use Rattle.theory_sets.specs.ClosedGoal.{ComesToGoal}
use Rattle.theory_sets.proofs.CrowdsStay.{dead_permuted, held_on, guarded_held, end_on, goal_permuted}
use Rattle.cert_sets.specs.Layered.{layered}
use Rattle.cert_sets.specs.SetFaults.{HasOutput, IsGoodSet, AreGoodSets}
use Rattle.cert_goals.specs.GoalLaws.{GoalsHold}
use Rattle.cert_goals.proofs.Ways.{way_of_leaf}

module _ (leaf : LeafModel) (moves : List ℕ) (sets : List (List ℕ)) (start : List ℕ) (value : Bool) (good : AreGoodSets leaf moves value sets) (ends : (end : List ℕ) → Reachable (LeafStep leaf) start end → IsDeadFor leaf moves end → IsWithinOne sets end) where
  within_one : (crowd : List ℕ) → IsGoalEnd leaf moves start crowd → IsWithinOne sets crowd
  within_one crowd e =
      let w = ends e.other e.reached (dead_permuted leaf moves crowd e.other e.dead (IsPermutation-sym e.other crowd e.order)) in
      record { set = w.set; listed = w.listed; within = All-permutation (Contains w.set) e.other crowd e.order w.within }

  good_set : (set : List ℕ) → Contains sets set → IsGoodSet leaf moves value set
  good_set set listed = All-contains (IsGoodSet leaf moves value) sets set good listed

  pub goal_closed : (before after : List ℕ) → IsAtGoal leaf moves sets start before → LeafStep leaf before after → IsAtGoal leaf moves sets start after
  goal_closed before after (inr held) s = inr (held_on leaf moves sets before after held s)
  goal_closed before after (inl e) s = by_set (within_one before e)
    where
      by_kind : (w : IsWithinOne sets before) → IsGuarded leaf moves w.set ⊎ SleepIn leaf w.set moves → IsAtGoal leaf moves sets start after
      by_kind w (inl guarded) =
          inr (held_on leaf moves sets before after (guarded_held leaf moves sets w.set before w.listed guarded w.within e.dead) s)
      by_kind w (inr asleep) = inl (end_on leaf moves start w.set before after w.within asleep e s)

      by_set : IsWithinOne sets before → IsAtGoal leaf moves sets start after
      by_set w = let g = good_set w.set w.listed in by_kind w g.stays

  right_in : (set crowd : List ℕ) → Contains sets set → IsWithin set crowd → All (λ q. slice_index_or leaf.outputs q false ≡ value) crowd
  right_in set crowd listed within k d l =
      let g = good_set set listed in
      let q = get_or crowd k d in
      get_or_from_slice_get leaf.outputs q value false (All-contains (HasOutput leaf value) set q g.right (within k d l))

  pub goal_right : (crowd : List ℕ) → IsAtGoal leaf moves sets start crowd → All (λ q. slice_index_or leaf.outputs q false ≡ value) crowd
  goal_right crowd (inl e) = let w = within_one crowd e in right_in w.set crowd w.listed w.within
  goal_right crowd (inr held) = right_in held.set crowd held.listed held.within

-- valid layers of some moves lead to an end
comes_to_goal : (leaf : LeafModel) (layers : List Layer) (sets : List (List ℕ)) → IsLeaf leaf → ValidLayers (layered leaf layers) layers → (counts : List ℕ) → IsInput (length leaf.inputs) (length leaf.helpers) counts → ComesToGoal leaf (moves_of_layers layers) sets (leaf_input_crowd leaf counts) (layers_bound layers)
comes_to_goal leaf layers sets formed v counts input crowd r =
    let moves = moves_of_layers layers in
    let start = leaf_input_crowd leaf counts in
    let range = end_in_range leaf formed counts r.0 crowd input.one_each r.1 in
    let e = valid_layers-end (layered leaf layers) layers (hushed_formed leaf moves formed) v crowd range in
    let reached = e.reached in
    let way = way_of_leaf leaf moves crowd reached.0 e.end reached.2 in (
      e.end,
      inl (record {
        other = e.end;
        reached = (r.0 ++ reached.0, leads-append (LeafStep leaf) start r.0 crowd reached.0 e.end r.1 way);
        order = IsPermutation-refl e.end;
        dead = e.terminal;
      }),
      (reached.0, reached.1, way),
    )

pub all_goals_hold : GoalsHold
all_goals_hold = record {
  stay = λ leaf moves tree value sets good ends counts input has.
      record {
        closed = goal_closed leaf moves sets (leaf_input_crowd leaf counts) value good (λ end reached dead. ends counts end input has reached dead);
        right = goal_right leaf moves sets (leaf_input_crowd leaf counts) value good (λ end reached dead. ends counts end input has reached dead);
        unordered = goal_permuted leaf moves sets (leaf_input_crowd leaf counts);
      };
  come = comes_to_goal;
}
