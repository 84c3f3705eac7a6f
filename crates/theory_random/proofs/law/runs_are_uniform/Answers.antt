use Rattle.theory_random.proofs.Pairs.{uniform}
use Rattle.theory_random.proofs.law.runs_are_uniform.Goals as goal

pub returns : goal.returns
returns c = uniform
