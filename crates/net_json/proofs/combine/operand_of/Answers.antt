use Rattle.std.proofs.Common.{rules}
use Rattle.net_json.proofs.combine.operand_of.Goals as goal

pub returns-in-Some-clause-operand : goal.returns-in-Some-clause-operand
returns-in-Some-clause-operand c = search rules
