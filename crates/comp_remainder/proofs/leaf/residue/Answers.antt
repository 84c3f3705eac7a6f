use Rattle.std.proofs.Common.{rules}
use Rattle.comp_remainder.proofs.leaf.residue.Goals as goal

pub returns : goal.returns
returns c = search rules
