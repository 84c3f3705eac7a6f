use Rattle.comp_net.proofs.FewerStates.{flock-smaller}
use Rattle.comp_net.proofs.law.flocks_are_smaller.Goals as goal

pub returns : goal.returns
returns c = flock-smaller
