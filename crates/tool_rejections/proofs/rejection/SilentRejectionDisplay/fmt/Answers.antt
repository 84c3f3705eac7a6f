use Rattle.std.proofs.Common.{arith}
use Rattle.std.proofs.lemmas.Grind.{common_steps}
use Rattle.tool_rejections.proofs.rejection.SilentRejectionDisplay.fmt.Goals as goal

pub returns-in-Layers-clause-writes : goal.returns-in-Layers-clause-writes
returns-in-Layers-clause-writes c = grind (arith, common_steps)
