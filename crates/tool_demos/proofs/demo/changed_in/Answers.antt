use Rattle.std.proofs.Common.{rules}
use Rattle.tool_demos.proofs.demo.changed_in.Goals as goal

pub returns : goal.returns
returns c = search rules
