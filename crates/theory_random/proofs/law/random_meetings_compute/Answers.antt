use Rattle.theory_random.proofs.AlmostSurely.{compute}
use Rattle.theory_random.proofs.law.random_meetings_compute.Goals as goal

pub returns : goal.returns
returns c = compute
