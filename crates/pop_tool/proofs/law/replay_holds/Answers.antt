use Rattle.pop_tool.proofs.RunHeld
use Rattle.pop_tool.proofs.law.replay_holds.Goals as goal

pub returns : goal.returns
returns c = RunHeld.replay_is_held
