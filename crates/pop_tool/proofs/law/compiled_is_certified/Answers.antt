use Rattle.pop_tool.proofs.CompileChecked.{compiled_is_certified}
use Rattle.pop_tool.proofs.law.compiled_is_certified.Goals as goal

pub returns : goal.returns
returns c = compiled_is_certified
