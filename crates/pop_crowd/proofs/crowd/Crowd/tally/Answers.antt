use Rattle.pop_crowd.proofs.Counted.{tuples_of-crowd}
use Rattle.pop_crowd.proofs.crowd.Crowd.tally.Goals as goal

pub returns-in_err-text-clause-tuples : goal.returns-in_err-text-clause-tuples
returns-in_err-text-clause-tuples c = tuples_of-crowd _

pub returns-clause-tuples : goal.returns-clause-tuples
returns-clause-tuples c = tuples_of-crowd _
