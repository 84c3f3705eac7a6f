use Rattle.std.proofs.Common.{rules}
use Rattle.comp_net.proofs.whole.compile.Goals as goal

pub returns : goal.returns
returns c = search rules
