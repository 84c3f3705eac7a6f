use Rattle.comp_net.proofs.FewStatesProof.{few_states}
use Rattle.comp_net.proofs.law.succinct_leaves_are_small.Goals as goal

pub returns : goal.returns
returns c = few_states
