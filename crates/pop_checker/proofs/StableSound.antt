-- A valid proof with goals shows that the net stably computes the predicate.
use Rattle.std.proofs.Common.{◌≡◌, ℕ, Bool, true, false, List, length, Some, sym, subst, ◌∙◌}
use Rattle.pop_leaf.proofs.Quiet.{All-slice_get}
use Rattle.pres_ast.specs.PredTree.{PredTree}
use Rattle.pres_ast.specs.PredModel.{PredModel, HasAtoms}
use Rattle.pop_leaf.specs.LeafModel.{LeafModel, IsLeaf}
use Rattle.pop_leaf.specs.NetModel.{NetModel, IsNet, combined}
use Rattle.pop_leaf.specs.InputCrowd.{leaf_input_crowd}
use Rattle.cert_base.specs.declared.proof.Goal.{Goal}
use Rattle.cert_base.specs.declared.stable.StablePart.{StablePart}
use Rattle.cert_base.specs.declared.stable.StablePart.TheVariants.{Silent, Stable}
use Rattle.cert_base.specs.declared.stable.StableProof.{StableProof}
use Rattle.cert_base.specs.StableProof.{pred_of_part}
use Rattle.cert_base.specs.ValidProof.{trees}
use Rattle.cert_goals.specs.ValidGoal.{ValidGoal}
use Rattle.cert_goals.specs.GoalLaws.{IsReachedGoal, goal_for}
use Rattle.cert_goals.proofs.ValidGoals.{all_valid_hold}
use Rattle.pop_checker.proofs.RightEnds.{closes_right}
use Rattle.theory_goals.specs.LeafGoals.{PartsCombineTo}
use Rattle.theory_goals.specs.Kinds.{KindPart, HoldsFrom, HoldsAt, ComesToRest, parts_of, ComeToRest}
use Rattle.theory_goals.specs.StablyRight.{IsStablyRight}
use Rattle.theory_goals.proofs.EitherKind.{mixed_right}
use Rattle.pop_checker.specs.ValidStable.{ValidPart, ValidStableProof}
use Rattle.pop_checker.specs.StableSound.{AreStablePreds, IsStablySound}
use Rattle.pop_checker.proofs.LeafKinds.{value_goal, kind_of, kinds_of, kinds_length, kind_at, kinds_bound, kinds_trees}

-- ---- a leaf

module _ (leaf : LeafModel) (is_leaf : IsLeaf leaf) (p : PredModel) (over : p.variables ≡ length leaf.inputs) (has : HasAtoms p.variables p.tree) where
  holds_from : (on_true on_false : Goal) (value : Bool) (start : List ℕ) → IsReachedGoal leaf value (goal_for on_true on_false value) start
      → HoldsFrom leaf value (value_goal leaf value (goal_for on_true on_false value)) start
  holds_from on_true on_false value start reached = record { stay = reached.stays; come = reached.comes }

  goal_holds : (on_true on_false : Goal) (value : Bool) → ValidGoal leaf p true on_true → ValidGoal leaf p false on_false
      → HoldsAt leaf p.tree value (value_goal leaf value (goal_for on_true on_false value))
  goal_holds on_true on_false value t f counts input same =
      let reached = all_valid_hold leaf p on_true on_false is_leaf over has t f counts input in
      holds_from on_true on_false value (leaf_input_crowd leaf counts)
      (subst (λ (b : Bool). IsReachedGoal leaf b (goal_for on_true on_false b) (leaf_input_crowd leaf counts)) same reached)

part_rests : (leaf : LeafModel) (part : StablePart) → IsLeaf leaf → (pred_of_part part).variables ≡ length leaf.inputs → HasAtoms (pred_of_part part).variables (pred_of_part part).tree → ValidPart leaf part
    → ComesToRest leaf (kind_of leaf part).tree (kind_of leaf part).kind
part_rests leaf (Silent part) is over has valid =
    mixed_right.silent leaf part.layers part.pred.tree is valid.layers
    (closes_right leaf part.pred true part.on_true is over has valid.on_true)
    (closes_right leaf part.pred false part.on_false is over has valid.on_false)
part_rests leaf (Stable goals) is over has valid = (
  goal_holds leaf is goals.pred over has goals.on_true goals.on_false true valid.0 valid.1,
  goal_holds leaf is goals.pred over has goals.on_true goals.on_false false valid.0 valid.1,
)

-- ---- a net

combines : (net : NetModel) (proof : StableProof) (p : PredModel) → length proof.leaves ≡ length net.leaves → ValidStableProof net p proof → PartsCombineTo net (parts_of (kinds_of net.leaves proof.leaves)) p.tree
combines net proof p e valid =
    subst (λ (ts : List PredTree). combined (trees ts) net.combine ≡ Some p.tree) (sym (kinds_trees net.leaves proof.leaves e)) valid.combination

pub rests : (net : NetModel) (proof : StableProof) (p : PredModel) → IsNet net → AreStablePreds net proof → ValidStableProof net p proof → ComeToRest net p.tree (kinds_of net.leaves proof.leaves)
rests net proof p is preds valid =
    record {
      one_each = kinds_length net.leaves proof.leaves valid.one_each;
      leaves = λ i leaf kind h k.
          let at = kind_at net.leaves proof.leaves i leaf kind h k in
          let leaf_is = All-slice_get IsLeaf net.leaves i leaf is.leaves h in
          let inputs = All-slice_get (λ (l : LeafModel). length l.inputs ≡ length net.variables) net.leaves i leaf is.inputs h in
          let pred = preds i at.0 at.1 in
          let rest = part_rests leaf at.0 leaf_is (pred.0 ∙ sym inputs) pred.1 (valid.leaves i leaf at.0 h at.1) in
          subst (λ (x : KindPart). ComesToRest leaf x.tree x.kind) at.2 rest;
      combination = combines net proof p valid.one_each valid;
    }

pub stable_sound : IsStablySound
stable_sound net p proof is preds valid =
    subst (λ (k : ℕ). IsStablyRight net p.tree k) (kinds_bound net.leaves proof.leaves valid.one_each)
    (mixed_right.right net p.tree (kinds_of net.leaves proof.leaves) is (rests net proof p is preds valid))
