use Rattle.std.proofs.Common.{rules}
use Rattle.net_json.proofs.leaves.helper_range.Goals as goal

pub returns-in-len1-up-clause-allowed : goal.returns-in-len1-up-clause-allowed
returns-in-len1-up-clause-allowed c = search rules
