-- GoalLaws: the crowds of a goal are closed under every step, right, and reached.
use Rattle.std.specs.Prelude.{◌≡◌, ℕ, Bool, true, false, if◌then◌else◌, List, [], length}
use Rattle.pres_ast.specs.PredTree.{PredTree}
use Rattle.pres_ast.specs.PredModel.{PredModel, HasAtoms}
use Rattle.pres_ast.specs.PredicateValue.{predicate_value}
use Rattle.pop_leaf.specs.LeafModel.{LeafModel, IsLeaf}
use Rattle.pop_leaf.specs.InputCrowd.{leaf_input_crowd, IsInput}
use Rattle.cert_base.specs.declared.layer.Layer.{Layer}
use Rattle.cert_base.specs.declared.proof.Goal.{Goal}
use Rattle.cert_base.specs.FactsAndCases.{base_list, goal_list, sets_of}
use Rattle.cert_base.specs.ProofBound.{layers_bound}
use Rattle.cert_base.specs.ValidLayers.{moves_of_layers, ValidLayers}
use Rattle.theory_sets.specs.Reached.{EndsWithinOne}
use Rattle.theory_sets.specs.ClosedGoal.{IsClosedGoal, ComesToGoal}
use Rattle.cert_sets.specs.Layered.{layered}
use Rattle.cert_sets.specs.SetFaults.{AreGoodSets}
use Rattle.cert_goals.specs.ValidGoal.{moves_of_goal, sets_of_goal, ValidGoal}

-- what holds of good sets within one of which a tree shows all ends to be, at each input with the value
pub record GoalsHold : Type 0 where
  -- the crowds of the goal are closed under every step, and right
  pub stay : (leaf : LeafModel) (moves : List ℕ) (tree : PredTree) (value : Bool) (sets : List (List ℕ))
      → AreGoodSets leaf moves value sets → EndsWithinOne leaf moves tree value sets
      → (counts : List ℕ) → IsInput (length leaf.inputs) (length leaf.helpers) counts
      → predicate_value tree counts ≡ value
      → IsClosedGoal leaf moves value sets (leaf_input_crowd leaf counts)
  -- and if the moves have valid layers, a crowd of the goal is reached from each crowd on the way
  pub come : (leaf : LeafModel) (layers : List Layer) (sets : List (List ℕ)) → IsLeaf leaf
      → ValidLayers (layered leaf layers) layers
      → (counts : List ℕ) → IsInput (length leaf.inputs) (length leaf.helpers) counts
      → ComesToGoal leaf (moves_of_layers layers) sets (leaf_input_crowd leaf counts) (layers_bound layers)

-- what a goal gives from a start
pub record IsReachedGoal (leaf : LeafModel) (value : Bool) (goal : Goal) (start : List ℕ) : Type 0 where
  -- no step leaves its crowds, and in them the value is every agent's output
  pub stays : IsClosedGoal leaf (moves_of_goal goal) value (sets_of_goal leaf value goal) start
  -- from every crowd on the way steps lead to one of them, within the bound for each agent
  pub comes : ComesToGoal leaf (moves_of_goal goal) (sets_of_goal leaf value goal) start (layers_bound goal.layers)

-- the goal for a value
abbrev pub goal_for : (on_true on_false : Goal) → Bool → Goal
goal_for on_true on_false value = if value then on_true else on_false

-- with a valid goal for each value, from each input the goal for the predicate's value is reached
abbrev pub ValidGoalsHold : Type 0
ValidGoalsHold =
    (leaf : LeafModel) (p : PredModel) (on_true on_false : Goal) → IsLeaf leaf
    → p.variables ≡ length leaf.inputs → HasAtoms p.variables p.tree
    → ValidGoal leaf p true on_true → ValidGoal leaf p false on_false
    → (counts : List ℕ) → IsInput (length leaf.inputs) (length leaf.helpers) counts
    → IsReachedGoal leaf (predicate_value p.tree counts) (goal_for on_true on_false (predicate_value p.tree counts))
    (leaf_input_crowd leaf counts)

-- where a goal lists no set, the facts of its tree are those of a tree for terminal ends
abbrev pub FactsWithoutSets : Type 0
FactsWithoutSets =
    (leaf : LeafModel) (p : PredModel) (value : Bool)
    → goal_list leaf p value (sets_of leaf value []) ≡ base_list leaf p value
