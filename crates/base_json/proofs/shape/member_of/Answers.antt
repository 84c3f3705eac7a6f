use Rattle.std.proofs.Common.{rules}
use Rattle.base_json.proofs.shape.member_of.Goals as goal

pub returns-in-None : goal.returns-in-None
returns-in-None c = search rules
