use Rattle.pop_leaf.proofs.Copied.{one_copied}
use Rattle.pop_settle.proofs.hushing.copy_items.Goals as goal

pub loop-i-preserved : goal.loop-i-preserved
loop-i-preserved c =
    one_copied c.args.net.now.combine c.loop-i.i c.item.result c.loop-i.invariant c.item.ensures c.in_ok-push.ensures.items
