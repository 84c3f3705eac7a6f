use Rattle.std.proofs.Common.{rules}
use Rattle.run_picks.proofs.picker.Picker.pick.Goals as goal

pub returns-clause-next : goal.returns-clause-next
returns-clause-next c = search rules
