use Rattle.std.proofs.Common.{arith}
use Rattle.pop_net.proofs.Trees.{low_two, second_rest}
use Rattle.pop_net.proofs.combination.take_depth.Goals as goal

pub overflow_add-result-in-And : goal.overflow_add-result-in-And
overflow_add-result-in-And c =
    let low = low_two _ _ _ _ _ c.requires c.in_ok-second-in-And.ensures c.in_ok-first-in-And.ensures in
    omega (arith, low, c.max.ensures)

pub returns-in_ok-first-in-And-clause-rest : goal.returns-in_ok-first-in-And-clause-rest
returns-in_ok-first-in-And-clause-rest c =
    (2, second_rest _ _ _ _ _ c.in_ok-second-in-And.ensures c.in_ok-first-in-And.ensures)
