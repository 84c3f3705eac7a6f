-- ValidGoal: a goal that is valid for a leaf, a predicate and a value, and the first fault of one that isn't.
use Rattle.std.specs.Prelude.{◌≡◌, ℕ, Bool, List, [], length, Result, IfOk}
use Rattle.pop_io.specs.declared.failure.Failure.{Failure}
use Rattle.pop_io.specs.Failures.{IfFault, OnlyMemory}
use Rattle.pres_ast.specs.PredModel.{PredModel}
use Rattle.pop_leaf.specs.LeafModel.{LeafModel}
use Rattle.cert_base.specs.declared.fact.Fact.{Fact}
use Rattle.cert_base.specs.declared.proof.Goal.{Goal}
use Rattle.cert_base.specs.FactsAndCases.{sets_of, goal_list}
use Rattle.cert_base.specs.Closes.{ClosesFor}
use Rattle.cert_base.specs.ProofBound.{layers_bound}
use Rattle.cert_base.specs.ProofLimits.{IsGoalWithin}
use Rattle.cert_base.specs.ValidLayers.{moves_of_layers, ValidLayers}
use Rattle.cert_layers.specs.LayerFaults.{AreBrokenFirst}
use Rattle.cert_tree.specs.Refusals.{IsFaultFor}
use Rattle.cert_goals.specs.declared.fault.GoalWhy.{GoalWhy}
use Rattle.cert_goals.specs.declared.fault.GoalWhy.TheVariants.{Layers, Set, Node}
use Rattle.cert_sets.specs.Layered.{layered}
use Rattle.cert_sets.specs.SetFaults.{AreGoodSets, AreBadBy}

-- the numbers of the moves that the goal's layers list
abbrev pub moves_of_goal : Goal → List ℕ
moves_of_goal goal = moves_of_layers goal.layers

-- the leaf that keeps these moves alone
abbrev pub dead_for : LeafModel → Goal → LeafModel
dead_for leaf goal = layered leaf goal.layers

-- the sets of the goal; where it lists none, the one of all states with the value as their output
abbrev pub sets_of_goal : LeafModel → Bool → Goal → List (List ℕ)
sets_of_goal leaf value goal = sets_of leaf value goal.sets

-- what holds at an end whose input gives the predicate the value, where each set of the goal has an agent outside
abbrev pub facts_of_goal : LeafModel → PredModel → Bool → Goal → List Fact
facts_of_goal leaf p value goal = goal_list leaf p value (sets_of_goal leaf value goal)

pub record ValidGoal (leaf : LeafModel) (p : PredModel) (value : Bool) (goal : Goal) : Type 0 where
  -- the layers are valid for the leaf in which all moves that they don't list are silent
  pub layers : ValidLayers (dead_for leaf goal) goal.layers
  -- the states of each set have the value as their output, and the set stays
  pub sets : AreGoodSets leaf (moves_of_goal goal) value (sets_of_goal leaf value goal)
  -- no execution ends with none of these moves possible and an agent outside each set
  pub nodes : ClosesFor leaf (dead_for leaf goal) (facts_of_goal leaf p value goal) goal.nodes []

-- the first fault: first the layers, then the sets in order, then the nodes
abbrev pub IsGoalFault : LeafModel → PredModel → Bool → Goal → GoalWhy → Type 0
IsGoalFault leaf p value goal (Layers why) = AreBrokenFirst (dead_for leaf goal) goal.layers why
IsGoalFault leaf p value goal (Set fault) =
    ValidLayers (dead_for leaf goal) goal.layers
    × AreBadBy leaf (moves_of_goal goal) value (sets_of_goal leaf value goal) fault
IsGoalFault leaf p value goal (Node fault) =
    ValidLayers (dead_for leaf goal) goal.layers
    × AreGoodSets leaf (moves_of_goal goal) value (sets_of_goal leaf value goal)
    × IsFaultFor leaf (dead_for leaf goal) (facts_of_goal leaf p value goal) goal.nodes fault

-- what is required of a goal for a predicate of a leaf
pub record IsGoalOf (leaf : LeafModel) (p : PredModel) (goal : Goal) : Type 0 where
  pub variables : p.variables ≡ length leaf.inputs
  pub within : IsGoalWithin goal

-- what `check_goal` says: the goal is valid, with the bound of its layers; or this is its first fault
pub record ChecksGoal (leaf : LeafModel) (p : PredModel) (value : Bool) (goal : Goal)
    (result : Result ℕ (Failure GoalWhy)) : Type 0 where
  pub valid : IfOk result (λ bound. ValidGoal leaf p value goal × (bound ≡ layers_bound goal.layers))
  pub fault : IfFault result (IsGoalFault leaf p value goal)
  pub accepts : ValidGoal leaf p value goal → OnlyMemory result
