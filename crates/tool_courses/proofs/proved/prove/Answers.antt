use Rattle.std.proofs.Common.{rules}
use Rattle.tool_courses.proofs.ProvedBundles.{silent_proved, stable_proved}
use Rattle.tool_courses.proofs.proved.prove.Goals as goal

pub returns-then-is_silent-clause-proved : goal.returns-then-is_silent-clause-proved
returns-then-is_silent-clause-proved c =
    silent_proved c.args.bundle c.args.counts.now c.requires.limits c.in_ok-check_stable.ensures.valid (search rules)

pub returns-clause-proved : goal.returns-clause-proved
returns-clause-proved c =
    stable_proved c.args.bundle c.args.counts.now c.requires.limits c.in_ok-check_stable.ensures.valid (search rules) c.in_ok-rest.rest c.in_ok-rest.ensures
