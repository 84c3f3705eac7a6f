use Rattle.std.proofs.lemmas.Result.{on_ok_weaker}
use Rattle.comp_flock.proofs.Building.{nodes-as}
use Rattle.comp_flock.proofs.trees.push_prefixes.Goals as goal

pub returns : goal.returns
returns c =
    on_ok_weaker c.push_ends.result
    (λ h. nodes-as c.args.leaf.now c.args.worths.now.most c.args.worths.now.list.now c.args.worths.now.k c.args.worths.now.top c.args.nodes.now.items c.push_present.new.nodes.items c.push.new.self.items c.push_ends.new.nodes.items c.in_ok-without_node.field-0 c.in_ok-push_present.ensures c.in_ok-without_node.ensures c.in_ok-push.ensures.items h)
    c.push_ends.ensures
