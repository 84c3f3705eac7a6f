use Rattle.std.proofs.Common.{rules}
use Rattle.cert_json.specs.Examined.{node_at}
use Rattle.cert_json.proofs.node.NodesReadItem.read.Goals as goal

pub returns-in-None : goal.returns-in-None
unfolding node_at
returns-in-None c = search rules
