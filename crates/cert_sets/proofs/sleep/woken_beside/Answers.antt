use Rattle.std.proofs.Common.{sym, ◌∙◌}
use Rattle.cert_sets.proofs.Woken.{asleep_beside, finds_least}
use Rattle.cert_sets.proofs.sleep.woken_beside.Goals as goal

pub returns-then-not-may_wake : goal.returns-then-not-may_wake
returns-then-not-may_wake c =
    asleep_beside c.args.awake.now c.args.members.now c.args.taken c.requires.formed (sym c.may_wake.ensures ∙ c.if-not-may_wake.true)

pub returns : goal.returns
returns c = finds_least c.args.awake.now c.args.members.now c.args.taken c.least_woken.result (sym c.least_woken.ensures)
