use Rattle.cert_base.proofs.FlowBalance.{flows-balance}
use Rattle.cert_base.proofs.law.flow_law.Goals as goal

pub returns : goal.returns
returns c = flows-balance
