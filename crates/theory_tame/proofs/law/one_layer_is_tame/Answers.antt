use Rattle.theory_tame.proofs.OneLayer.{one_layer_tame}
use Rattle.theory_tame.proofs.law.one_layer_is_tame.Goals as goal

pub returns : goal.returns
returns c = one_layer_tame
