use Rattle.serde_json.specs.View.{view}
use Rattle.net_json.proofs.NetLaws.{read-file, broken-no_file}
use Rattle.net_json.proofs.read.read_net.Goals as goal

pub returns-clause-file : goal.returns-clause-file
returns-clause-file c = read-file (view c.args.value.now) c.read_net_at.result c.read_net_at.ensures

pub returns-clause-no_file : goal.returns-clause-no_file
returns-clause-no_file c = broken-no_file (view c.args.value.now) c.read_net_at.result c.read_net_at.ensures
