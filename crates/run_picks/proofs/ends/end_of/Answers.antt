use Rattle.run_picks.proofs.ends.end_of.Goals as goal

pub returns-in-None : goal.returns-in-None
returns-in-None c = c.in_ok-a.ensures.none.0 c.in-None.is

pub returns-in-Some : goal.returns-in-Some
returns-in-Some c =
    let found = c.in_ok-a.ensures in
    (rw c.in-Some.is at found.least, λ terminal. let none = found.none.1 terminal in cc (none, c.in-Some.is))
