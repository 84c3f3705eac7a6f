-- A goal that isn't valid has one first fault, and a valid one has none.
use Rattle.std.proofs.Common.{◌≡◌, ℕ, Bool, List, [], refl, sym, ap, ◌∙◌}
use Rattle.std.specs.Prelude.{Some, Err}
use Rattle.pres_ast.specs.PredModel.{PredModel}
use Rattle.pop_leaf.specs.LeafModel.{LeafModel}
use Rattle.cert_base.specs.declared.fact.Fact.{Fact}
use Rattle.cert_base.specs.declared.node.Node.{Node as TreeNode}
use Rattle.cert_base.specs.declared.proof.Goal.{Goal}
use Rattle.cert_base.specs.Closes.{ClosesFor}
use Rattle.pop_io.specs.declared.failure.Failure.TheVariants.{Fault}
use Rattle.cert_layers.proofs.Valid.{accepted}
use Rattle.cert_tree.specs.declared.fault.TreeFault.{TreeFault}
use Rattle.cert_tree.specs.declared.fault.TreeWhy.{TreeWhy}
use Rattle.cert_tree.specs.Refusals.{IsFaultFor}
use Rattle.cert_tree.proofs.ClosedWalk.{ClosesFor-unrefused}
use Rattle.cert_goals.specs.declared.fault.GoalWhy.{GoalWhy}
use Rattle.cert_goals.specs.declared.fault.GoalWhy.TheVariants.{Layers, Set, Node}
use Rattle.cert_goals.specs.ValidGoal.{moves_of_goal, dead_for, sets_of_goal, facts_of_goal, ValidGoal, IsGoalFault}
use Rattle.pop_checker.proofs.OneFault.{one_layer_fault}
use Rattle.pop_checker.proofs.OneSetFault.{bad_sets, one_set_fault}

abbrev Named : Type 0
Named = ℕ × TreeWhy

same_named : (named other : Named) → Some named ≡ Some other → named ≡ other
same_named named other same = cc

module _ (leaf dead : LeafModel) (facts : List Fact) (nodes : List TreeNode) where
  not_closed : (fault : TreeFault) → IsFaultFor leaf dead facts nodes fault → ClosesFor leaf dead facts nodes [] → ⊥
  not_closed fault is closes = let none = ClosesFor-unrefused leaf dead facts nodes closes in cc

  one_node : (fault other : TreeFault) → IsFaultFor leaf dead facts nodes fault → IsFaultFor leaf dead facts nodes other → fault ≡ other
  one_node fault other f g =
      let same = same_named (fault.node, fault.why) (other.node, other.why) (sym f ∙ g) in
      ap (λ (named : Named). (let made : TreeFault = record { node = named.0; why = named.1 } in made)) same

module _ (leaf : LeafModel) (p : PredModel) (value : Bool) (goal : Goal) where
  pub goal_refuses : (why : GoalWhy) → ValidGoal leaf p value goal → IsGoalFault leaf p value goal why → ⊥
  goal_refuses (Layers why) valid is =
      let none = accepted (dead_for leaf goal) goal.layers goal.layers (Err (Fault why)) refl is valid.layers in cc
  goal_refuses (Set fault) valid is = bad_sets leaf (moves_of_goal goal) value (sets_of_goal leaf value goal) fault is.1 valid.sets
  goal_refuses (Node fault) valid is = not_closed leaf (dead_for leaf goal) (facts_of_goal leaf p value goal) goal.nodes fault is.2 valid.nodes

  pub one_goal_fault : (why other : GoalWhy) → IsGoalFault leaf p value goal why → IsGoalFault leaf p value goal other → why ≡ other
  one_goal_fault (Layers why) (Layers other) f g = ap (λ w. Layers w) (one_layer_fault (dead_for leaf goal) goal.layers why other f g)
  one_goal_fault (Layers why) (Set other) f g = let none = accepted (dead_for leaf goal) goal.layers goal.layers (Err (Fault why)) refl f g.0 in absurd cc
  one_goal_fault (Layers why) (Node other) f g = let none = accepted (dead_for leaf goal) goal.layers goal.layers (Err (Fault why)) refl f g.0 in absurd cc
  one_goal_fault (Set fault) (Layers other) f g = let none = accepted (dead_for leaf goal) goal.layers goal.layers (Err (Fault other)) refl g f.0 in absurd cc
  one_goal_fault (Set fault) (Set other) f g =
      ap (λ x. Set x) (one_set_fault leaf (moves_of_goal goal) value (sets_of_goal leaf value goal) fault other f.1 g.1)
  one_goal_fault (Set fault) (Node other) f g = absurd (bad_sets leaf (moves_of_goal goal) value (sets_of_goal leaf value goal) fault f.1 g.1)
  one_goal_fault (Node fault) (Layers other) f g = let none = accepted (dead_for leaf goal) goal.layers goal.layers (Err (Fault other)) refl g f.0 in absurd cc
  one_goal_fault (Node fault) (Set other) f g = absurd (bad_sets leaf (moves_of_goal goal) value (sets_of_goal leaf value goal) other g.1 f.1)
  one_goal_fault (Node fault) (Node other) f g =
      ap (λ x. Node x) (one_node leaf (dead_for leaf goal) (facts_of_goal leaf p value goal) goal.nodes fault other f.2 g.2)
