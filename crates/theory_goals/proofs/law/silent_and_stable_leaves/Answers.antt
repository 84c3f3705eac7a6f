use Rattle.theory_goals.proofs.EitherKind.{mixed_right}
use Rattle.theory_goals.proofs.law.silent_and_stable_leaves.Goals as goal

pub returns : goal.returns
returns c = mixed_right
