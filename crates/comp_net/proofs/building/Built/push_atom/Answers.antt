use Rattle.std.proofs.Common.{rules}
use Rattle.comp_net.proofs.building.Built.push_atom.Goals as goal

pub returns : goal.returns
returns c = search rules
