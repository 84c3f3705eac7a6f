use Rattle.theory_tame.proofs.Nets.{tame_cubic}
use Rattle.theory_tame.proofs.law.tame_layers_are_cubic.Goals as goal

pub returns : goal.returns
returns c = tame_cubic
