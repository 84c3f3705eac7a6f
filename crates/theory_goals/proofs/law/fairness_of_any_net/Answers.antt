use Rattle.theory_goals.proofs.FairExtension.{all_kinds}
use Rattle.theory_goals.proofs.law.fairness_of_any_net.Goals as goal

pub returns : goal.returns
returns c = all_kinds
