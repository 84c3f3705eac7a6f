use Rattle.theory_goals.proofs.Right.{join_right}
use Rattle.theory_goals.proofs.law.leaf_goals_join.Goals as goal

pub returns : goal.returns
returns g c = join_right g.G.LeafGoals.has
