use Rattle.pop_leaf.proofs.Copied.{one_copied}
use Rattle.pop_leaf.proofs.parts.outputs_of.Goals as goal

pub loop-q-preserved : goal.loop-q-preserved
loop-q-preserved c =
    one_copied c.args.leaf.now.outputs c.loop-q.q c.output.result c.loop-q.invariant c.output.ensures c.in_ok-push.ensures.items
