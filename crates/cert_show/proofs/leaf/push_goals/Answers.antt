use Rattle.std.proofs.Common.{true, false}
use Rattle.cert_show.specs.LeafLines.{goal_lines}
use Rattle.cert_show.proofs.Pieces.{two_blocks}
use Rattle.cert_show.proofs.leaf.push_goals.Goals as goal

pub returns : goal.returns
returns c =
    two_blocks c.args.out.now.items c.push_goal.new.out.items c.push_goal-2.new.out.items (goal_lines c.args.leaf.now true c.args.goals.now.on_true) (goal_lines c.args.leaf.now false c.args.goals.now.on_false)
    c.in_ok-push_goal.ensures c.in_ok-push_goal-2.ensures
