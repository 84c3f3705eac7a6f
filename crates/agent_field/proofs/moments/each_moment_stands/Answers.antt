use Rattle.agent_field.proofs.EachMoment.{each_moment}
use Rattle.agent_field.proofs.moments.each_moment_stands.Goals as goal

pub returns : goal.returns
returns c = each_moment
