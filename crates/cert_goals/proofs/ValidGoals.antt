-- What valid goals give.
use Rattle.std.proofs.Common.{◌≡◌, Bool, true, false, length, refl}
use Rattle.pres_ast.specs.PredModel.{PredModel, HasAtoms}
use Rattle.pres_ast.specs.PredicateValue.{predicate_value}
use Rattle.pop_leaf.specs.LeafModel.{LeafModel, IsLeaf}
use Rattle.pop_leaf.specs.InputCrowd.{leaf_input_crowd, IsInput}
use Rattle.std.specs.Prelude.{ℕ, List}
use Rattle.cert_base.specs.declared.proof.Goal.{Goal}
use Rattle.cert_base.proofs.WrongEnds.{outside_ends-met}
use Rattle.cert_tree.proofs.ClosedEnds.{goal_formed, closes_none}
use Rattle.cert_tree.proofs.Inside.{none_inside}
use Rattle.theory_sets.specs.Reached.{EndsWithinOne}
use Rattle.cert_goals.specs.ValidGoal.{moves_of_goal, dead_for, sets_of_goal, facts_of_goal, ValidGoal}
use Rattle.cert_goals.specs.GoalLaws.{IsReachedGoal, goal_for, GoalsHold, ValidGoalsHold}
use Rattle.cert_goals.proofs.Goals.{all_goals_hold}

module _ (leaf : LeafModel) (p : PredModel) (is : IsLeaf leaf) (over : p.variables ≡ length leaf.inputs) (has : HasAtoms p.variables p.tree) where
  module _ (value : Bool) (goal : Goal) (valid : ValidGoal leaf p value goal) where
    -- its tree shows that each end is within one of its sets
    pub ends_within : EndsWithinOne leaf (moves_of_goal goal) p.tree value (sets_of_goal leaf value goal)
    ends_within =
        none_inside leaf (dead_for leaf goal) p.tree value (sets_of_goal leaf value goal) (facts_of_goal leaf p value goal)
        (outside_ends-met leaf p value (sets_of_goal leaf value goal) is over)
        (closes_none valid.nodes is (record { inputs = refl; states = refl }) (goal_formed leaf p value (sets_of_goal leaf value goal) has))

    reached : (counts : List ℕ) → IsInput (length leaf.inputs) (length leaf.helpers) counts → predicate_value p.tree counts ≡ value → IsReachedGoal leaf value goal (leaf_input_crowd leaf counts)
    reached counts input e =
        let law : GoalsHold = all_goals_hold in
        record {
          stays = law.stay leaf (moves_of_goal goal) p.tree value (sets_of_goal leaf value goal) valid.sets ends_within counts input e;
          comes = law.come leaf goal.layers (sets_of_goal leaf value goal) is valid.layers counts input;
        }

  both : (on_true on_false : Goal) → ValidGoal leaf p true on_true → ValidGoal leaf p false on_false → (counts : List ℕ) → IsInput (length leaf.inputs) (length leaf.helpers) counts → (value : Bool) → predicate_value p.tree counts ≡ value → IsReachedGoal leaf value (goal_for on_true on_false value) (leaf_input_crowd leaf counts)
  both on_true on_false yes_valid no_valid counts input true e = reached true on_true yes_valid counts input e
  both on_true on_false yes_valid no_valid counts input false e = reached false on_false no_valid counts input e

pub all_valid_hold : ValidGoalsHold
all_valid_hold leaf p on_true on_false is over has yes_valid no_valid counts input =
    both leaf p is over has on_true on_false yes_valid no_valid counts input (predicate_value p.tree counts) refl
