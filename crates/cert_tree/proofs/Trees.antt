-- What the walk over a tree says of a tree for a value, and of a goal's.
use Rattle.std.proofs.Common.{◌≡◌, Bool, ℕ, List, [], refl, subst}
use Rattle.std.specs.Prelude.{Result, Ok, Err, OnOk}
use Rattle.pop_io.specs.declared.failure.Failure.{Failure}
use Rattle.pres_ast.specs.PredModel.{PredModel, HasAtoms}
use Rattle.pop_leaf.specs.LeafModel.{LeafModel, IsLeaf}
use Rattle.cert_base.specs.declared.fact.Fact.{Fact}
use Rattle.cert_base.specs.declared.node.Node.{Node}
use Rattle.cert_base.specs.FactsAndCases.{base_list, goal_list}
use Rattle.cert_base.specs.Closes.{ClosesFor}
use Rattle.cert_base.specs.Ends.{HaveSamePlaces, HoldAtWrongEnds}
use Rattle.cert_base.specs.GoalEnds.{HoldAtOutsideEnds}
use Rattle.cert_tree.specs.declared.fault.TreeFault.{TreeFault}
use Rattle.cert_tree.specs.Refusals.{ChecksTree, ChecksGoalTree}
use Rattle.cert_tree.specs.NoEnds.{NoneMeets}
use Rattle.cert_tree.specs.Walks.{WalksNodes}
use Rattle.cert_tree.proofs.ClosedEnds.{AreFormed, base_formed, goal_formed, closes_none}
use Rattle.cert_tree.proofs.Verdicts.{none_right}
use Rattle.cert_tree.proofs.Inside.{none_inside}

only_when : {A B : Type 0} (result : Result (Unit {0}) (Failure TreeFault)) → (A → B) → OnOk result A → OnOk result B
only_when (Ok u) f h = f h
only_when (Err e) f h = tt

-- nodes that close facts leave no end that meets them
none_left : (leaf dead : LeafModel) (facts : List Fact) (nodes : List Node) → IsLeaf leaf → HaveSamePlaces leaf dead → AreFormed facts → ClosesFor leaf dead facts nodes [] → NoneMeets leaf dead facts
none_left leaf dead facts nodes is same formed closes = closes_none closes is same formed

pub tree_checked : (leaf : LeafModel) (p : PredModel) (value : Bool) (nodes : List Node) (facts : List Fact) (result : Result (Unit {0}) (Failure TreeFault)) → IsLeaf leaf → HasAtoms p.variables p.tree → facts ≡ base_list leaf p value → HoldAtWrongEnds leaf p.tree value facts → WalksNodes leaf leaf facts nodes result → ChecksTree leaf p value nodes result
tree_checked leaf p value nodes facts result leaf_is has is met walked =
    let walked' = subst (λ (facts : List Fact). WalksNodes leaf leaf facts nodes result) is walked in
    let met' = subst (λ (facts : List Fact). HoldAtWrongEnds leaf p.tree value facts) is met in
    record {
      closes = walked'.closes;
      fault = walked'.fault;
      accepts = walked'.accepts;
      right =
          only_when result (λ closes. none_right leaf p.tree value (base_list leaf p value) met'
          (none_left leaf leaf (base_list leaf p value) nodes leaf_is (record { inputs = refl; states = refl }) (base_formed leaf p value has) closes)) walked'.closes;
    }

pub goal_tree_checked : (leaf dead : LeafModel) (p : PredModel) (value : Bool) (sets : List (List ℕ)) (nodes : List Node) (facts : List Fact) (result : Result (Unit {0}) (Failure TreeFault)) → IsLeaf leaf → HaveSamePlaces leaf dead → HasAtoms p.variables p.tree → facts ≡ goal_list leaf p value sets → HoldAtOutsideEnds leaf p.tree value sets facts → WalksNodes leaf dead facts nodes result → ChecksGoalTree leaf dead p value sets nodes result
goal_tree_checked leaf dead p value sets nodes facts result leaf_is same has is met walked =
    let walked' = subst (λ (facts : List Fact). WalksNodes leaf dead facts nodes result) is walked in
    let met' = subst (λ (facts : List Fact). HoldAtOutsideEnds leaf p.tree value sets facts) is met in
    record {
      closes = walked'.closes;
      fault = walked'.fault;
      accepts = walked'.accepts;
      inside =
          only_when result (λ closes. none_inside leaf dead p.tree value sets (goal_list leaf p value sets) met'
          (none_left leaf dead (goal_list leaf p value sets) nodes leaf_is same (goal_formed leaf p value sets has) closes)) walked'.closes;
    }
