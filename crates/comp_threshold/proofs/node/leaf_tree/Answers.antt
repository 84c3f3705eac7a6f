use Rattle.std.proofs.Common.{◌∙◌, length, ap, arith}
use Rattle.std.proofs.lemmas.Result.{IfOk-weaker}
use Rattle.std.proofs.lemmas.List.FromFn.{length-map-range_with_len}
use Rattle.comp_trees.specs.LeaderTree.{tree_of_ends}
use Rattle.comp_trees.proofs.TreeOfEnds.{tree-flat}
use Rattle.comp_threshold.specs.ThresholdLeaf.{span_of}
use Rattle.comp_threshold.specs.ThresholdProof.{threshold_leader_node}
use Rattle.comp_threshold.proofs.node.leaf_tree.Goals as goal

pub tree-requires : goal.tree-requires
tree-requires c =
    omega (arith, ap length c.in_ok-nodes.ensures, length-map-range_with_len (threshold_leader_node c.args.bounded.now.leaf.now c.args.bounded.now.width.number c.args.bounded.now.bound c.args.b) 0 (span_of c.args.bounded.now.width.number), c.args.bounded.now.states)

pub returns : goal.returns
returns c =
    IfOk-weaker c.tree.result _ _ (λ nodes h. h ∙ ap (tree_of_ends c.args.bounded.now.leaf.now) c.in_ok-nodes.ensures ∙ tree-flat c.args.bounded.now.leaf.now (span_of c.args.bounded.now.width.number) (threshold_leader_node c.args.bounded.now.leaf.now c.args.bounded.now.width.number c.args.bounded.now.bound c.args.b)) c.tree.ensures
