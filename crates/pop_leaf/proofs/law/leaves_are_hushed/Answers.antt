use Rattle.pop_leaf.proofs.Crowds.{are_hushed}
use Rattle.pop_leaf.proofs.law.leaves_are_hushed.Goals as goal

pub returns : goal.returns
returns c = are_hushed
