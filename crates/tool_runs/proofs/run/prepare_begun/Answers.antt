use Rattle.std.proofs.Common.{Ok, Some, None, ◌++◌, refl, subst}
use Rattle.base_lines.specs.Lines.{ended}
use Rattle.tool_courses.specs.Course.{Course}
use Rattle.tool_courses.specs.RunOutput.{IsRunOutput}
use Rattle.tool_runs.specs.Run.{OfBegun}
use Rattle.tool_courses.proofs.Leads.{text_leads, pending_leads, pending_plain}
use Rattle.tool_courses.proofs.ProvedBundles.{proved_start}
use Rattle.tool_runs.proofs.run.prepare_begun.Goals as goal

pub returns-in-Ok-clause-leads : goal.returns-in-Ok-clause-leads
returns-in-Ok-clause-leads c =
    let of = rw c.as_slice.ensures at c.in-Ok.ensures.proved in
    let text = ended c.args.lines.0.now ++ ended c.args.lines.1.now in
    let counts = c.args.start.counts in
    pending_leads (λ output. OfBegun c.args.kind c.args.spec text (c.args.bundle, counts) (Ok output)) _
    (record { limits = c.requires.spec; workers = c.requires.workers; proved = of.formed; start = proved_start c.args.bundle counts c.in-Ok.proved c.args.start of c.requires.start })
    (λ output is. (
      None,
      output,
      of.valid,
      subst (λ (course : Course). IsRunOutput c.args.kind c.args.spec text course counts output) of.course is,
      refl,
    ))
    c.in_ok-run-in-Ok.run' c.in_ok-run-in-Ok.ensures

pub returns-in-Ok-clause-plain : goal.returns-in-Ok-clause-plain
returns-in-Ok-clause-plain c = λ whole one. pending_plain _ c.in_ok-run-in-Ok.run' c.in_ok-run-in-Ok.ensures whole one

pub returns-in-Err-Fault-clause-leads : goal.returns-in-Err-Fault-clause-leads
returns-in-Err-Fault-clause-leads c =
    let output = c.in_ok-rejection_output-in-Err-Fault.field-0 in
    text_leads (λ o. OfBegun c.args.kind c.args.spec (ended c.args.lines.0.now ++ ended c.args.lines.1.now) (c.args.bundle, c.args.start.counts) (Ok o)) output
    (Some c.in-Err-Fault.rejected, output, rw c.in-Err-Fault.field-0-is at c.in-Err-Fault.ensures.fault, rw c.in-Err-Fault.rejected-is at c.in_ok-rejection_output-in-Err-Fault.ensures, refl)
