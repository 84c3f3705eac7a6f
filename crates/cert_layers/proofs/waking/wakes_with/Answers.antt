use Rattle.std.proofs.Common.{rules}
use Rattle.cert_layers.proofs.waking.wakes_with.Goals as goal

pub returns : goal.returns
returns c = search rules
