use Rattle.std.proofs.Common.{rules}
use Rattle.cert_base.proofs.split.less_one.Goals as goal

pub returns : goal.returns
returns c = search rules
