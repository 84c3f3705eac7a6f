use Rattle.std.proofs.Common.{rules}
use Rattle.cert_json.proofs.node.after_word.Goals as goal

pub returns-in-Twin : goal.returns-in-Twin
returns-in-Twin c = search rules
