-- Where no move of the chosen layers is possible, every agent outputs the predicate's value for ever.
use Rattle.std.proofs.Common.{◌≡◌, inl, ℕ, Bool, true, false, List, ◌++◌, length, ap, sym, subst, ◌∙◌}
use Rattle.std.specs.Prelude.{Some, slice_get, All}
use Rattle.std.specs.Option.{option_map}
use Rattle.std.proofs.lemmas.List.Sorted.{IsPermutation-refl}
use Rattle.std.proofs.lemmas.Option.{slice_get-map}
use Rattle.pres_ast.specs.PredModel.{PredModel}
use Rattle.pres_ast.specs.PredicateValue.{predicate_value}
use Rattle.pop_leaf.specs.LeafModel.{LeafModel}
use Rattle.pop_leaf.specs.NetModel.{NetModel, Tuple, CrowdModel, IsTuple, IsNet, number_of_helpers}
use Rattle.pop_leaf.specs.InputCrowd.{IsInput, input_crowd, leaf_input_crowd}
use Rattle.pop_leaf.specs.Step.{LeafStep, Step}
use Rattle.pop_leaf.specs.Reachable.{Reachable}
use Rattle.pop_net.proofs.Lifting.{terminal_component}
use Rattle.pop_net.proofs.Projection.{component, input_component, reachable_component}
use Rattle.pop_leaf.proofs.Quiet.{All-slice_get}
use Rattle.pop_net.proofs.Tuples.{input_tuples, reachable_tuples}
use Rattle.pop_leaf.proofs.Crowds.{are_hushed}
use Rattle.cert_base.specs.declared.stable.LeafGoals.{LeafGoals}
use Rattle.cert_base.specs.declared.stable.StablePart.{StablePart}
use Rattle.cert_base.specs.declared.stable.StablePart.TheVariants.{Silent, Stable}
use Rattle.cert_base.specs.declared.stable.StableProof.{StableProof}
use Rattle.cert_base.specs.ValidLayers.{moves_of_layers}
use Rattle.cert_layers.proofs.Termination.{leads-append}
use Rattle.theory_sets.specs.Reached.{IsDeadFor, IsAtGoal}
use Rattle.cert_goals.specs.GoalLaws.{goal_for}
use Rattle.cert_sets.specs.Layered.{layered}
use Rattle.theory_goals.specs.Kinds.{KindPart, for_value, IsAtRest}
use Rattle.theory_goals.specs.OutputStable.{IsOutputStable}
use Rattle.theory_goals.proofs.EitherKind.{rest_stable}
use Rattle.pop_checker.specs.ValidStable.{ValidPart, ValidStableProof}
use Rattle.pop_checker.specs.StableSound.{AreStablePreds}
use Rattle.pop_checker.proofs.LeafKinds.{value_goal, kind_of, kinds_of, kind_at}
use Rattle.pop_checker.proofs.StableSound.{rests}
use Rattle.pop_settle.specs.declared.take.Take.{Take}
use Rattle.pop_settle.specs.Settlement.{IsSettlement}
use Rattle.pop_settle.proofs.Endings.{leads_reached}
use Rattle.pop_settle.specs.Chosen.{layers_at, part_at, proof_at}
use Rattle.pop_settle.specs.HushedNet.{hushed_net}
use Rattle.pop_settle.specs.RestLaws.{EndsRight}
use Rattle.pop_settle.specs.Resting.{IsResting}
use Rattle.pop_settle.proofs.Dead.{layers_dead}
use Rattle.pop_settle.proofs.HushedLeaves.{hushed_length, hushed_at}

-- ---- a leaf

-- the goal for the value is reached
at_goal : (leaf : LeafModel) (goals : LeafGoals) (start states : List ℕ) (value : Bool) → Reachable (LeafStep leaf) start states → IsDeadFor leaf (moves_of_layers (goal_for goals.on_true goals.on_false value).layers) states
    → (let goal = for_value (value_goal leaf true goals.on_true) (value_goal leaf false goals.on_false) value in IsAtGoal leaf goal.moves goal.sets start states)
at_goal leaf goals start states true reached dead = inl (record { other = states; reached = reached; order = IsPermutation-refl states; dead = dead })
at_goal leaf goals start states false reached dead = inl (record { other = states; reached = reached; order = IsPermutation-refl states; dead = dead })

part_rests : (leaf : LeafModel) (part : StablePart) (counts states : List ℕ) → Reachable (LeafStep leaf) (leaf_input_crowd leaf counts) states → ValidPart leaf part → IsDeadFor leaf (moves_of_layers (layers_at counts part)) states → IsAtRest leaf (kind_of leaf part).tree (kind_of leaf part).kind counts states
part_rests leaf (Silent part) counts states reached valid dead =
    record {
      other = states;
      reached = reached;
      order = IsPermutation-refl states;
      terminal = λ end step. dead end (are_hushed.loud leaf (moves_of_layers part.layers) (valid.layers.all) states end step);
    }
part_rests leaf (Stable goals) counts states reached valid dead =
    at_goal leaf goals (leaf_input_crowd leaf counts) states (predicate_value goals.pred.tree counts) reached dead

-- ---- the net

module _ (net : NetModel) (p : PredModel) (proof : StableProof) (is : IsNet net) (preds : AreStablePreds net proof) (valid : ValidStableProof net p proof) (counts : List ℕ) (input : IsInput (length net.variables) (number_of_helpers net) counts) (end : CrowdModel) (way : Reachable (Step net) (input_crowd net counts) end) (dead : (i : ℕ) (leaf : LeafModel) (part : StablePart) → slice_get net.leaves i ≡ Some leaf → slice_get proof.leaves i ≡ Some part → IsDeadFor leaf (moves_of_layers (layers_at counts part)) (component i end)) where
  leaf_rests : (i : ℕ) (leaf : LeafModel) (kind : KindPart) → slice_get net.leaves i ≡ Some leaf → slice_get (kinds_of net.leaves proof.leaves) i ≡ Some kind → IsAtRest leaf kind.tree kind.kind counts (component i end)
  leaf_rests i leaf kind h k =
      let at = kind_at net.leaves proof.leaves i leaf kind h k in
      let helpers = All-slice_get (λ (l : LeafModel). length l.helpers ≡ number_of_helpers net) net.leaves i leaf is.helpers h in
      let reached = subst (λ (c : List ℕ). Reachable (LeafStep leaf) c (component i end)) (input_component net i leaf counts h helpers) (reachable_component net i leaf (input_crowd net counts) end h way) in
      let leaves = valid.leaves in
      subst (λ (x : KindPart). IsAtRest leaf x.tree x.kind counts (component i end)) at.2
      (part_rests leaf at.0 counts (component i end) reached (leaves i leaf at.0 h at.1) (dead i leaf at.0 h at.1))

  pub outputs_rest : IsOutputStable net (predicate_value p.tree counts) end
  outputs_rest =
      rest_stable net p.tree (kinds_of net.leaves proof.leaves) (rests net proof p is preds valid) is counts input end
      (reachable_tuples net (input_crowd net counts) end (input_tuples net counts) way) leaf_rests

-- ---- a settlement

pub settlement_right : (net : NetModel) (proof : StableProof) (counts : List ℕ) (crowd end : CrowdModel) (takes : List Take) → IsNet net → IsSettlement net (proof_at counts proof) crowd takes end → EndsRight net proof counts crowd end
settlement_right net proof counts crowd end takes is s p preds valid input way =
    outputs_rest net p proof is preds valid counts input end to dead
  where
    tuples : All (IsTuple net) crowd
    tuples = reachable_tuples net (input_crowd net counts) crowd (input_tuples net counts) way

    to : Reachable (Step net) (input_crowd net counts) end
    to =
        let more = leads_reached net (proof_at counts proof) crowd end takes tuples s.leads in
        (way.0 ++ more.0, leads-append (Step net) (input_crowd net counts) way.0 crowd more.0 end way.1 more.2)

    dead : (i : ℕ) (leaf : LeafModel) (part : StablePart) → slice_get net.leaves i ≡ Some leaf → slice_get proof.leaves i ≡ Some part → IsDeadFor leaf (moves_of_layers (layers_at counts part)) (component i end)
    dead i leaf part h k =
        layers_dead net (proof_at counts proof) end s.ended i leaf (part_at counts part) h (slice_get-map (part_at counts) proof.leaves i ∙ ap (option_map (part_at counts)) k)

-- ---- a crowd in which no move of the chosen layers is possible

pub resting_right : (net : NetModel) (proof : StableProof) (counts : List ℕ) (crowd : CrowdModel) → IsNet net → IsResting net proof counts crowd → EndsRight net proof counts crowd crowd
resting_right net proof counts crowd is resting p preds valid input way =
    outputs_rest net p proof is preds valid counts input crowd way dead
  where
    hushed : NetModel
    hushed = hushed_net net (proof_at counts proof)

    tuples : All (IsTuple hushed) crowd
    tuples =
        subst (λ (n : ℕ). All (λ (tuple : Tuple). length tuple ≡ n) crowd) (sym (hushed_length net.leaves (proof_at counts proof).leaves))
        (reachable_tuples net (input_crowd net counts) crowd (input_tuples net counts) way)

    dead : (i : ℕ) (leaf : LeafModel) (part : StablePart) → slice_get net.leaves i ≡ Some leaf → slice_get proof.leaves i ≡ Some part → IsDeadFor leaf (moves_of_layers (layers_at counts part)) (component i crowd)
    dead i leaf part h k =
        let chosen = slice_get-map (part_at counts) proof.leaves i ∙ ap (option_map (part_at counts)) k in
        terminal_component hushed i (layered leaf (layers_at counts part)) crowd (hushed_at net.leaves (proof_at counts proof).leaves i leaf (part_at counts part) h chosen) tuples resting
