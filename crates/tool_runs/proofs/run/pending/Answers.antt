use Rattle.std.proofs.Common.{refl, rules}
use Rattle.tool_runs.proofs.run.pending.Goals as goal

pub returns-in-Whole : goal.returns-in-Whole
returns-in-Whole c = (refl, search rules, search rules)
