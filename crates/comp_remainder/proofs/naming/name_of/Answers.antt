use Rattle.std.proofs.Common.{rules}
use Rattle.comp_remainder.proofs.naming.name_of.Goals as goal

pub returns : goal.returns
returns c = search rules
