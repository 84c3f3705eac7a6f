use Rattle.pop_checker.proofs.Bounds.{bound_fits}
use Rattle.pop_checker.proofs.stable_part.check_value.Goals as goal

pub returns-in-Ok-clause-bound : goal.returns-in-Ok-clause-bound
returns-in-Ok-clause-bound c =
    let is = c.in-Ok.ensures.valid.1 in
    (is, bound_fits c.args.goal.now.layers c.in-Ok.bound is c.requires.within.layer_count c.requires.within.layers)
