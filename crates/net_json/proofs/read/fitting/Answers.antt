use Rattle.std.proofs.Common.{rules}
use Rattle.net_json.proofs.read.fitting.Goals as goal

pub of_valid-requires : goal.of_valid-requires
of_valid-requires c = c.requires cc

pub returns-in-Some : goal.returns-in-Some
returns-in-Some c = search rules
