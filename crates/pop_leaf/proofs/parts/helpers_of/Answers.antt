use Rattle.pop_leaf.proofs.Copied.{one_copied}
use Rattle.pop_leaf.proofs.parts.helpers_of.Goals as goal

pub loop-j-preserved : goal.loop-j-preserved
loop-j-preserved c =
    one_copied c.args.leaf.now.helpers c.loop-j.j c.helper.result c.loop-j.invariant c.helper.ensures.start c.in_ok-push.ensures.items
