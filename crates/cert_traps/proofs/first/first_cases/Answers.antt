use Rattle.std.proofs.Common.{◌∙◌, ap}
use Rattle.cert_base.specs.FactsAndCases.{cases_of_first}
use Rattle.cert_traps.proofs.FirstEnds.{first-cover}
use Rattle.cert_traps.proofs.first.first_cases.Goals as goal

pub returns-clause-cases : goal.returns-clause-cases
returns-clause-cases c = c.in_ok-cases.ensures ∙ ap (cases_of_first c.args.leaf.now) c.in_ok-set.ensures

pub returns-clause-cover : goal.returns-clause-cover
returns-clause-cover c = first-cover c.args.leaf.now c.args.set.now c.state_count-formed.ensures.formed
