use Rattle.pop_checker.proofs.Bounds.{bound_fits}
use Rattle.std.proofs.Common.{rules}
use Rattle.pop_checker.proofs.part.check_order.Goals as goal

pub returns-in-Ok-clause-bound : goal.returns-in-Ok-clause-bound
returns-in-Ok-clause-bound c =
    let is = c.in-Ok.ensures.valid.1 in
    (is, bound_fits c.args.part.now.layers c.in-Ok.bound is c.requires.few c.requires.within)

pub returns-in-Err-NoMemory-clause-fault : goal.returns-in-Err-NoMemory-clause-fault
returns-in-Err-NoMemory-clause-fault c = search rules

pub returns-in-Err-NoMemory-clause-accepts : goal.returns-in-Err-NoMemory-clause-accepts
returns-in-Err-NoMemory-clause-accepts c = search rules
