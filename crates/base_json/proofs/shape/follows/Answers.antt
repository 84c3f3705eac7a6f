use Rattle.std.proofs.Common.{rules}
use Rattle.base_json.proofs.shape.follows.Goals as goal

pub returns-in-Some : goal.returns-in-Some
returns-in-Some c = search rules
