use Rattle.cert_goals.proofs.NoSets.{without_sets}
use Rattle.cert_goals.proofs.law.facts_without_sets.Goals as goal

pub returns : goal.returns
returns c = without_sets
