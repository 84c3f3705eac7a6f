use Rattle.std.proofs.Common.{rules}
use Rattle.tool_nets.proofs.eval.truth_text.Goals as goal

pub returns : goal.returns
returns c = search rules
