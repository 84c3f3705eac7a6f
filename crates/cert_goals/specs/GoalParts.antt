-- The parts of the check of a goal.
use Rattle.std.specs.Prelude.{ℕ, Bool, List, [], Result, OnOk}
use Rattle.pop_io.specs.declared.failure.Failure.{Failure}
use Rattle.pop_io.specs.Failures.{IfFault, OnlyMemory}
use Rattle.pres_ast.specs.PredModel.{PredModel}
use Rattle.pop_leaf.specs.LeafModel.{LeafModel}
use Rattle.cert_base.specs.declared.layer.Layer.{Layer}
use Rattle.cert_base.specs.declared.node.Node.{Node}
use Rattle.cert_base.specs.FactsAndCases.{goal_list}
use Rattle.cert_base.specs.Closes.{ClosesFor}
use Rattle.cert_base.specs.ValidLayers.{moves_of_layers}
use Rattle.cert_layers.specs.LayerFaults.{AreBrokenFirst}
use Rattle.cert_tree.specs.Refusals.{IsFaultFor}
use Rattle.cert_goals.specs.declared.fault.GoalWhy.{GoalWhy}
use Rattle.cert_goals.specs.declared.fault.GoalWhy.TheVariants.{Layers, Set, Node as NodeFault}
use Rattle.cert_sets.specs.Layered.{layered}
use Rattle.cert_sets.specs.SetFaults.{AreGoodSets, AreBadBy}

-- the fault is that of the layers
abbrev pub IsLayersFault : LeafModel → List Layer → GoalWhy → Type 0
IsLayersFault leaf layers (Layers why) = AreBrokenFirst (layered leaf layers) layers why
IsLayersFault leaf layers (Set fault) = ⊥
IsLayersFault leaf layers (NodeFault fault) = ⊥

-- the fault is that of the first set that isn't good
abbrev pub IsSetsFault : LeafModel → List Layer → Bool → List (List ℕ) → GoalWhy → Type 0
IsSetsFault leaf layers value sets (Layers why) = ⊥
IsSetsFault leaf layers value sets (Set fault) = AreBadBy leaf (moves_of_layers layers) value sets fault
IsSetsFault leaf layers value sets (NodeFault fault) = ⊥

-- the nodes close the facts that these sets give
abbrev pub NodesClose : LeafModel → List Layer → PredModel → Bool → List (List ℕ) → List Node → Type 0
NodesClose leaf layers p value sets nodes =
    ClosesFor leaf (layered leaf layers) (goal_list leaf p value sets) nodes []

-- the fault is that of the first node that is refused
abbrev pub IsNodesFault : LeafModel → List Layer → PredModel → Bool → List (List ℕ) → List Node → GoalWhy → Type 0
IsNodesFault leaf layers p value sets nodes (Layers why) = ⊥
IsNodesFault leaf layers p value sets nodes (Set fault) = ⊥
IsNodesFault leaf layers p value sets nodes (NodeFault fault) =
    IsFaultFor leaf (layered leaf layers) (goal_list leaf p value sets) nodes fault

-- first the sets, then the nodes
abbrev pub IsRestFault : LeafModel → List Layer → PredModel → Bool → List (List ℕ) → List Node → GoalWhy → Type 0
IsRestFault leaf layers p value sets nodes (Layers why) = ⊥
IsRestFault leaf layers p value sets nodes (Set fault) = AreBadBy leaf (moves_of_layers layers) value sets fault
IsRestFault leaf layers p value sets nodes (NodeFault fault) =
    AreGoodSets leaf (moves_of_layers layers) value sets
    × IsFaultFor leaf (layered leaf layers) (goal_list leaf p value sets) nodes fault

-- what the check of the sets and the nodes says
pub record ChecksRest (leaf : LeafModel) (layers : List Layer) (p : PredModel) (value : Bool) (sets : List (List ℕ))
    (nodes : List Node) (result : Result (Unit {0}) (Failure GoalWhy)) : Type 0 where
  pub good : OnOk result (AreGoodSets leaf (moves_of_layers layers) value sets)
  pub closes : OnOk result (NodesClose leaf layers p value sets nodes)
  pub fault : IfFault result (IsRestFault leaf layers p value sets nodes)
  pub accepts : AreGoodSets leaf (moves_of_layers layers) value sets → NodesClose leaf layers p value sets nodes
      → OnlyMemory result
