use Rattle.pop_tool.proofs.OneAnswer
use Rattle.pop_tool.proofs.law.one_answer.Goals as goal

pub returns : goal.returns
returns c = OneAnswer.one_answer
