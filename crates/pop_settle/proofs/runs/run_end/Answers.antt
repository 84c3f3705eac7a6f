use Rattle.std.proofs.Common.{◌+◌, ◌<◌, length, get_or, arith}
use Rattle.std.proofs.lemmas.Option.{slice_get-get_or}
use Rattle.pop_settle.proofs.Running.{alike_next, longer_run}
use Rattle.pop_settle.proofs.runs.run_end.Goals as goal

pub returns-then-begin_alike : goal.returns-then-begin_alike
returns-then-begin_alike c =
    let leaf = c.args.leaf.now in
    let moves = c.args.moves.now in
    let ends = c.args.ends.now in
    let place = c.args.place in
    let next = c.if-next-moves.true in
    let within : place + 1 < length ends = omega (arith, next, c.requires.long) in
    longer_run leaf moves place (get_or ends (place + 1) 0) next (c.requires.in_range (place + 1) 0 next)
    (alike_next leaf moves place (place + 1) (get_or moves place 0) (get_or moves (place + 1) 0) (slice_get-get_or moves place 0 c.requires.place_in) (slice_get-get_or moves (place + 1) 0 next) (c.begin_alike.ensures c.if-begin_alike.true))
    (c.requires.behind (get_or ends (place + 1) 0) (slice_get-get_or ends (place + 1) 0 within))
