use Rattle.std.proofs.Common.{◌-◌, arith}
use Rattle.kernel_draws.proofs.Pairs.{carried, rest_carried}
use Rattle.kernel_draws.proofs.pair.parts_of.Goals as goal

-- src/pair.rt:22:9
pub returns-then-rest-least-clause-taken : goal.returns-then-rest-least-clause-taken
returns-then-rest-least-clause-taken c = λ taken.
    let few = rw (c.from.ensures, c.from-2.ensures, c.from-3.ensures) at c.if-rest-least.true in
    omega (arith, few, taken, rest_carried 18446744073709551616 c.args.word c.args.n (c.args.n - 1), c.requires.bound)

-- src/pair.rt:7:1
pub returns-clause-number : goal.returns-clause-number
returns-clause-number c =
    rw (c.from.ensures, c.from-2.ensures, c.from-3.ensures)
    (omega (arith, carried 18446744073709551616 c.args.word c.args.n (c.args.n - 1) (omega arith)))

-- src/pair.rt:7:1
pub returns-clause-taken : goal.returns-clause-taken
returns-clause-taken c =
    let enough = rw (c.from.ensures, c.from-2.ensures, c.from-3.ensures) at c.if-rest-least.false in
    omega (arith, enough, rest_carried 18446744073709551616 c.args.word c.args.n (c.args.n - 1), c.requires.bound)
