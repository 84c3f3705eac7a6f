use Rattle.std.proofs.Common.{rules}
use Rattle.base_json.proofs.fault.WhyDisplay.fmt.Goals as goal

pub returns-in-Shape-clause-writes : goal.returns-in-Shape-clause-writes
returns-in-Shape-clause-writes c = search rules
