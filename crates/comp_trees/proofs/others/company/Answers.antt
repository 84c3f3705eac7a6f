use Rattle.std.proofs.Common.{length, arith}
use Rattle.std.specs.Prelude.{not, ◌==◌, ◌&&◌}
use Rattle.cert_base.specs.FactsAndCases.{can_meet_in}
use Rattle.comp_trees.proofs.FilteredRanges.{filter_range_more, filter_range_below}
use Rattle.comp_trees.proofs.others.company.Goals as goal

pub loop-q-preserved : goal.loop-q-preserved
loop-q-preserved c =
    filter_range_more (λ q. not (q == c.args.state) && can_meet_in c.args.leaf.now c.args.state q) c.loop-q.q c.is_other-passes.result c.loop-q.states.items c.push_if.new.states.items c.is_other-passes.ensures c.loop-q.invariant c.in_ok-push_if.ensures

pub returns-clause-below : goal.returns-clause-below
returns-clause-below c =
    filter_range_below (λ q. not (q == c.args.state) && can_meet_in c.args.leaf.now c.args.state q) c.loop-q.q (length c.args.leaf.now.states) c.loop-q.states.items (omega (arith, c.loop-q.auto.q-end, c.state_count-q-end.ensures.count)) c.loop-q.invariant
