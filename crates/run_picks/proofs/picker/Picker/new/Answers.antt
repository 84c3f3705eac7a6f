use Rattle.std.proofs.Common.{rules}
use Rattle.run_picks.proofs.picker.Picker.new.Goals as goal

pub returns-clause-state : goal.returns-clause-state
returns-clause-state c = search rules
