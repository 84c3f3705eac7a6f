use Rattle.pop_checker.proofs.StableSound.{stable_sound}
use Rattle.pop_checker.proofs.stable_law.valid_is_stably_right.Goals as goal

pub returns : goal.returns
returns c = stable_sound
