use Rattle.std.proofs.Common.{rules}
use Rattle.cert_layers.proofs.lower.is_lower.Goals as goal

pub returns : goal.returns
returns c = search rules
