use Rattle.std.proofs.Common.{rules}
use Rattle.comp_net.proofs.sizes.fault_by.Goals as goal

pub returns-in-Some : goal.returns-in-Some
returns-in-Some c = search rules
