-- A valid proof can be shown.
use Rattle.std.proofs.Common.{◌≡◌, ℕ, ◌<◌, Bool, true, false, List, [], ◌∷◌, ◌++◌, length, Some, ap, subst, arith}
use Rattle.std.specs.Prelude.{All, slice_get}
use Rattle.std.proofs.lemmas.List.Elements.{All-cons, All-nil, All-head, All-tail, All-weaker}
use Rattle.std.proofs.lemmas.Option.{slice_get_within}
use Rattle.pres_ast.specs.PredModel.{PredModel}
use Rattle.pop_leaf.specs.LeafModel.{LeafModel, IsLeaf}
use Rattle.pop_leaf.specs.NetModel.{NetModel, IsNet}
use Rattle.pop_leaf.proofs.Quiet.{All-slice_get}
use Rattle.pop_leaf.proofs.HushedMoves.{hushed_length}
use Rattle.cert_base.specs.declared.layer.Layer.{Layer}
use Rattle.cert_base.specs.declared.proof.Goal.{Goal}
use Rattle.cert_base.specs.declared.stable.StablePart.{StablePart}
use Rattle.cert_base.specs.declared.stable.StablePart.TheVariants.{Silent, Stable}
use Rattle.cert_base.specs.declared.stable.StableProof.{StableProof}
use Rattle.cert_base.specs.FactsAndCases.{sets_of}
use Rattle.cert_base.specs.StableProof.{IsPartWithin, IsStableProofWithin}
use Rattle.cert_base.specs.ValidLayers.{moves_of_layers}
use Rattle.cert_goals.specs.ValidGoal.{moves_of_goal, ValidGoal}
use Rattle.cert_sets.specs.SetFaults.{HasOutput, IsGoodSet, AreGoodSets}
use Rattle.pop_checker.specs.ValidStable.{ValidPart, ValidStableProof}
use Rattle.cert_show.specs.Showable.{IsLayerOf, IsSetOf, IsGoalOf, AreOfLeaf, IsPartOf, IsProofOf}

module _ {X : Type 0} (P : X → Type 0) where
  first_part : (xs ys : List X) → All P (xs ++ ys) → All P xs
  first_part [] ys all = All-nil P
  first_part (x ∷ xs) ys all = All-cons P x xs (All-head P x (xs ++ ys) all) (first_part xs ys (All-tail P x (xs ++ ys) all))

  second_part : (xs ys : List X) → All P (xs ++ ys) → All P ys
  second_part [] ys all = all
  second_part (x ∷ xs) ys all = second_part xs ys (All-tail P x (xs ++ ys) all)

layers_of : (leaf : LeafModel) (layers : List Layer) → All (λ layer. length layer.weights ≡ length leaf.states) layers → All (λ number. number < length leaf.moves) (moves_of_layers layers)
    → All (IsLayerOf leaf) layers
layers_of leaf [] weights moves = All-nil (IsLayerOf leaf)
layers_of leaf (layer ∷ layers) weights moves =
    All-cons (IsLayerOf leaf) layer layers
    (record {
      moves = first_part (λ number. number < length leaf.moves) layer.moves (moves_of_layers layers) moves;
      weights = All-head (λ (l : Layer). length l.weights ≡ length leaf.states) layer layers weights;
    })
    (layers_of leaf layers (All-tail (λ (l : Layer). length l.weights ≡ length leaf.states) layer layers weights) (second_part (λ number. number < length leaf.moves) layer.moves (moves_of_layers layers) moves))

-- a set of states with one output
set_of : (leaf : LeafModel) (moves : List ℕ) (value : Bool) (set : List ℕ) → IsLeaf leaf → IsGoodSet leaf moves value set → IsSetOf leaf set
set_of leaf moves value set is good =
    All-weaker (HasOutput leaf value) (λ q. q < length leaf.states)
    (λ q has. let within = slice_get_within leaf.outputs q value has in omega (arith, within, is.outputs)) set good.right

sets_listed : (leaf : LeafModel) (moves : List ℕ) (value : Bool) (sets : List (List ℕ)) → IsLeaf leaf → AreGoodSets leaf moves value (sets_of leaf value sets) → All (IsSetOf leaf) sets
sets_listed leaf moves value [] is good = All-nil (IsSetOf leaf)
sets_listed leaf moves value (set ∷ sets) is good =
    All-weaker (IsGoodSet leaf moves value) (IsSetOf leaf) (λ set one. set_of leaf moves value set is one) (set ∷ sets) good

goal_of : (leaf : LeafModel) (p : PredModel) (value : Bool) (goal : Goal) → IsLeaf leaf → ValidGoal leaf p value goal → IsGoalOf leaf goal
goal_of leaf p value goal is valid =
    record {
      layers = layers_of leaf goal.layers valid.layers.weights
          (subst (λ (count : ℕ). All (λ number. number < count) (moves_of_layers goal.layers)) (hushed_length (moves_of_layers goal.layers) 0 leaf.moves) valid.layers.in_range);
      sets = sets_listed leaf (moves_of_goal goal) value goal.sets is valid.sets;
    }

part_of : (variables : ℕ) (leaf : LeafModel) (part : StablePart) → IsLeaf leaf → ValidPart leaf part → IsPartWithin variables part → IsPartOf variables leaf part
part_of variables leaf (Silent part) is valid within =
    record { pred = within.pred; own = layers_of leaf part.layers valid.layers.weights valid.layers.in_range }
part_of variables leaf (Stable goals) is valid within =
    record { pred = within.pred; own = (goal_of leaf goals.pred true goals.on_true is valid.0, goal_of leaf goals.pred false goals.on_false is valid.1) }

pub showable : (net : NetModel) (p : PredModel) (proof : StableProof) → IsNet net → ValidStableProof net p proof → IsStableProofWithin (length net.variables) (length net.leaves) proof → IsProofOf net proof
showable net p proof is v within =
    record {
      one_each = v.one_each;
      parts = λ i leaf part h k.
          part_of (length net.variables) leaf part (All-slice_get IsLeaf net.leaves i leaf is.leaves h) (v.leaves i leaf part h k)
          (All-slice_get (IsPartWithin (length net.variables)) proof.leaves i part within.parts k);
    }
