use Rattle.agent_field.proofs.PlayKinds.{plays_are_kinds as each_play}
use Rattle.agent_field.proofs.moments.plays_are_kinds.Goals as goal

pub returns : goal.returns
returns c = each_play
