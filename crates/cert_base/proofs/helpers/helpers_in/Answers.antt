use Rattle.std.specs.Prelude.{◌==◌}
use Rattle.cert_base.proofs.HelperCounts.{count_more}
use Rattle.cert_base.proofs.helpers.helpers_in.Goals as goal

pub loop-j-preserved : goal.loop-j-preserved
loop-j-preserved c =
    count_more (λ z. z == c.args.q) c.args.leaf.now.helpers c.loop-j.j c.helper.result c.loop-j.count c.from-count.result c.helper.ensures.start c.from-count.ensures c.loop-j.invariant
