use Rattle.theory_random.proofs.AlmostSurely.{cubic_time}
use Rattle.theory_random.proofs.law.falling_is_cubic.Goals as goal

pub returns : goal.returns
returns c = cubic_time
