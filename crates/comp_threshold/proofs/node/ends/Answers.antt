use Rattle.comp_trees.proofs.Members.{map_range_push}
use Rattle.comp_threshold.specs.ThresholdProof.{threshold_leader_node}
use Rattle.comp_threshold.proofs.node.ends.Goals as goal

pub loop-p-preserved : goal.loop-p-preserved
loop-p-preserved c =
    map_range_push (threshold_leader_node c.args.bounded.now.leaf.now c.args.bounded.now.width.number c.args.bounded.now.bound c.args.b) c.loop-p.p c.loop-p.nodes.items c.push.new.self.items c.in_ok-leader_node.field-0 c.loop-p.invariant c.in_ok-leader_node.ensures c.in_ok-push.ensures.items
