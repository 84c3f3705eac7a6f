use Rattle.std.proofs.Common.{rules}
use Rattle.serde_json.proofs.Views.{view-Array}
use Rattle.cert_json.proofs.write_node.term_value.Goals as goal

pub returns : goal.returns
returns c = search (view-Array, rules)
