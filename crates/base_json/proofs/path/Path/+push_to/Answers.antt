use Rattle.std.proofs.Common.{arith}
use Rattle.std.proofs.lemmas.Grind.{common_steps}
use Rattle.base_json.proofs.path.Path.+push_to.Goals as goal

pub returns-in_ok-push_str-in-Item : goal.returns-in_ok-push_str-in-Item
returns-in_ok-push_str-in-Item c = grind (arith, common_steps)
