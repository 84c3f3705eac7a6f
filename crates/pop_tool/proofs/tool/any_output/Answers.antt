use Rattle.std.proofs.lemmas.Result.{IfOk-weaker}
use Rattle.pop_tool.proofs.tool.any_output.Goals as goal

pub returns-clause-output : goal.returns-clause-output
returns-clause-output g c = IfOk-weaker c.perform.result _ _ (λ o is. c.in_ok-prepared.ensures.leads.allowed o is) c.perform.ensures
