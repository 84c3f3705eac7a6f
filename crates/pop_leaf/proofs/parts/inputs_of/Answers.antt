use Rattle.pop_leaf.proofs.Copied.{one_copied}
use Rattle.pop_leaf.proofs.parts.inputs_of.Goals as goal

pub loop-i-preserved : goal.loop-i-preserved
loop-i-preserved c =
    one_copied c.args.leaf.now.inputs c.loop-i.i c.input.result c.loop-i.invariant c.input.ensures.start c.in_ok-push.ensures.items
