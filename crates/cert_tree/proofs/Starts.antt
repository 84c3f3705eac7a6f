-- The beginning of a walk over the nodes of a tree.
use Rattle.std.proofs.Common.{◌≤◌, Bool, ℕ, List, length}
use Rattle.pres_ast.specs.PredModel.{PredModel}
use Rattle.pop_leaf.specs.LeafModel.{LeafModel, IsLeaf}
use Rattle.cert_base.specs.FactsAndCases.{base_list, goal_list}
use Rattle.cert_tree.specs.Frames.{IsFit}
use Rattle.cert_tree.proofs.FewFacts.{base_few, goal_few}
use Rattle.cert_tree.proofs.Ordered.{base_ordered, goal_ordered, all_of}

pub base_fit : (leaf : LeafModel) (p : PredModel) (value : Bool) → IsLeaf leaf → IsFit (0, base_list leaf p value)
base_fit leaf p value is =
    record { few = base_few leaf p value is; ordered = all_of (base_ordered leaf p value) }

pub goal_fit : (leaf : LeafModel) (p : PredModel) (value : Bool) (sets : List (List ℕ)) → IsLeaf leaf → length sets ≤ 64 → IsFit (0, goal_list leaf p value sets)
goal_fit leaf p value sets is short =
    record { few = goal_few leaf p value sets is short; ordered = all_of (goal_ordered leaf p value sets) }
