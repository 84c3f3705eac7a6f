use Rattle.pop_checker.proofs.RightEnds
use Rattle.pop_checker.proofs.law.valid_is_right.Goals as goal

pub returns : goal.returns
returns c = RightEnds.sound
