use Rattle.std.proofs.Common.{rules}
use Rattle.pop_checker.proofs.part.check_part.Goals as goal

pub returns-clause-right : goal.returns-clause-right
returns-clause-right c = search rules

pub returns-in_err-check_value-clause-fault : goal.returns-in_err-check_value-clause-fault
returns-in_err-check_value-clause-fault c = search rules

pub returns-in_err-check_value-2-clause-fault : goal.returns-in_err-check_value-2-clause-fault
returns-in_err-check_value-2-clause-fault c = search rules

pub returns-clause-bound : goal.returns-clause-bound
returns-clause-bound c = search rules
