use Rattle.std.proofs.Common.{rules}
use Rattle.net_json.specs.Examined.{name_at}
use Rattle.net_json.proofs.names.NameFormReadItem.read.Goals as goal

pub returns : goal.returns
unfolding name_at
returns c = search rules
