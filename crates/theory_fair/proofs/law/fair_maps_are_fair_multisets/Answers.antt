use Rattle.theory_fair.proofs.Synchronous.{maps_are_fair}
use Rattle.theory_fair.proofs.law.fair_maps_are_fair_multisets.Goals as goal

pub returns : goal.returns
returns c = maps_are_fair
