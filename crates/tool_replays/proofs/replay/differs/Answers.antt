use Rattle.std.proofs.Common.{rules}
use Rattle.tool_replays.proofs.replay.differs.Goals as goal

pub returns : goal.returns
returns c = search rules
