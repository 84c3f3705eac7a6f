use Rattle.comp_trees.proofs.Members.{map_range_push}
use Rattle.comp_remainder.specs.RemainderProof.{remainder_leader_node}
use Rattle.comp_remainder.proofs.node.ends.Goals as goal

pub loop-p-preserved : goal.loop-p-preserved
loop-p-preserved c =
    map_range_push (remainder_leader_node c.args.leaf.now c.args.modulus.number c.args.rest c.args.answer) c.loop-p.p c.loop-p.nodes.items c.push.new.self.items c.in_ok-leader_node.field-0 c.loop-p.invariant c.in_ok-leader_node.ensures c.in_ok-push.ensures.items
