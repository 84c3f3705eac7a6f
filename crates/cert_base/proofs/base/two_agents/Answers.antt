use Rattle.std.proofs.Common.{rules}
use Rattle.cert_base.proofs.base.two_agents.Goals as goal

pub returns : goal.returns
returns c = search rules
