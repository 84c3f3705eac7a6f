use Rattle.std.proofs.Common.{Ok, Err, refl}
use Rattle.base_lines.specs.Lines.{lines_of}
use Rattle.tool_courses.proofs.Leads.{text_leads, leads_wider}
use Rattle.pop_tool.specs.Answer.{IsOfCommand}
use Rattle.pop_tool.proofs.prepare.prepare_for.Goals as goal

pub returns-in-Ok-clause-leads : goal.returns-in-Ok-clause-leads
returns-in-Ok-clause-leads c =
    leads_wider _ (IsOfCommand c.args.command (lines_of c.args.input.now)) (λ o gives. (Ok o, gives, refl)) c.in-Ok.prepared c.in-Ok.ensures.leads

pub returns-in_ok-of_refusal-in-Err-Fault-clause-leads : goal.returns-in_ok-of_refusal-in-Err-Fault-clause-leads
returns-in_ok-of_refusal-in-Err-Fault-clause-leads c =
    text_leads (IsOfCommand c.args.command (lines_of c.args.input.now)) c.in_ok-of_refusal-in-Err-Fault.field-0
    (Err c.in-Err-Fault.refusal, rw c.in-Err-Fault.field-0-is at c.in-Err-Fault.ensures.leads, c.in_ok-of_refusal-in-Err-Fault.ensures)
