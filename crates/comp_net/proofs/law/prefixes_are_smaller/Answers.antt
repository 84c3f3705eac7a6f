use Rattle.comp_net.proofs.FewerStates.{prefix-smaller}
use Rattle.comp_net.proofs.law.prefixes_are_smaller.Goals as goal

pub returns : goal.returns
returns c = prefix-smaller
