use Rattle.pop_checker.proofs.OneTame.{one_each_tame}
use Rattle.pop_checker.proofs.law.one_layer_each_is_tame.Goals as goal

pub returns : goal.returns
returns c = one_each_tame
