use Rattle.std.proofs.Common.{◌∙◌}
use Rattle.serde_json.proofs.Views.{view-Array}
use Rattle.cert_json.specs.Kinds.{kind_text}
use Rattle.cert_json.proofs.Members.{one_pushed}
use Rattle.cert_json.proofs.write_node.one_value.Goals as goal

pub returns : goal.returns
returns c = view-Array c.push.new.list ∙ one_pushed (kind_text c.args.kind) c.in_ok-list.list.items c.push.new.list.items c.args.part c.in_ok-list.ensures c.in_ok-push.ensures.ok
