use Rattle.comp_net.proofs.AtLeastTwoProof.{at_least_two_is}
use Rattle.comp_net.proofs.law.at_least_two_computes.Goals as goal

pub returns : goal.returns
returns c = at_least_two_is
