use Rattle.std.proofs.Common.{◌∙◌, ap}
use Rattle.cert_base.specs.FactsAndCases.{is_in}
use Rattle.cert_base.proofs.HelperCounts.{count_more}
use mir.Val.{bool_byte}
use Rattle.cert_traps.proofs.set.StateSet.helpers.Goals as goal

pub loop-j-preserved : goal.loop-j-preserved
loop-j-preserved c =
    count_more (is_in c.args.self.now) c.args.leaf.now.helpers c.loop-j.j c.helper.result c.loop-j.count c.from-count.result c.helper.ensures.start (c.from-count.ensures ∙ ap bool_byte c.contains.ensures) c.loop-j.invariant
