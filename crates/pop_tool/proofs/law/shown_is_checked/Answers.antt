use Rattle.pop_tool.proofs.ShowChecked.{shown_as_checked}
use Rattle.pop_tool.proofs.law.shown_is_checked.Goals as goal

pub returns : goal.returns
returns c = shown_as_checked
