use Rattle.kernel_ways.proofs.Tosses.{tossed_of}
use Rattle.kernel_ways.proofs.table.Table.tossed.Goals as goal

-- src/table.rt:80:5
pub returns : goal.returns
returns c =
    rw c.deref.ensures.value at
    (tossed_of c.deref.result.now c.args.number c.in_ok-coin.coin.now c.toss.result c.in_ok-coin.ensures.lookup.3.0
    c.in_ok-coin.ensures.lookup.1 c.toss.ensures)
