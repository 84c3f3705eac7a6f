use Rattle.std.proofs.Common.{rules}
use Rattle.tool_rejections.proofs.rejection.rejection_output.Goals as goal

pub returns : goal.returns
returns c = search rules
