use Rattle.std.proofs.Common.{refl}
use Rattle.pop_tool.proofs.law.check_is_meant.Goals as goal

pub returns : goal.returns
returns c = refl
