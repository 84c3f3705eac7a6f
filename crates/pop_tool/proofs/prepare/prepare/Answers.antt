use Rattle.std.proofs.Common.{◌≡◌, false, map, Err, sym, ap, rules}
use Rattle.std.proofs.lemmas.Result.{IfOk-weaker}
use Rattle.pop_tool.specs.Commands.{reads}
use Rattle.tool_courses.proofs.Leads.{text_leads, leads_wider}
use Rattle.pop_tool.proofs.Replies.{usage_right, command_right, long_right, fault_right, unread_right, long_input, whole_input}
use Rattle.pop_tool.proofs.prepare.prepare.Goals as goal

pub returns-in-Err-clause-leads : goal.returns-in-Err-clause-leads
returns-in-Err-clause-leads g c =
    text_leads _ c.in_ok-of_usage-in-Err.field-0
    (usage_right (map (λ w. w.now) c.args.words.now) (g.S.Source.left c.args.source.now) _ _ _ c.in-Err.usage _ (sym c.in-Err.ensures.meaning) c.in_ok-of_usage-in-Err.ensures)

pub returns-in-Ok-read_all-clause-leads : goal.returns-in-Ok-read_all-clause-leads
returns-in-Ok-read_all-clause-leads g c =
    let has = whole_input (g.S.Source.left c.args.source.now) c.in-Ok-read_all.input c.in-Ok-read_all.ensures.whole in
    IfOk-weaker c.prepare_for-in-Ok-read_all.result _ _
    (λ p leads. leads_wider _ _ (λ o of. command_right (map (λ w. w.now) c.args.words.now) (g.S.Source.left c.args.source.now) _ _ _ c.in-Ok.command (sym c.in-Ok.ensures.meaning) c.in-Ok-read_all.input has c.in-Ok-read_all.ensures.fits c.in-Ok-read_all.ensures.end o (rw c.as_slice.ensures at of)) p leads)
    c.prepare_for-in-Ok-read_all.ensures.leads

pub returns-in_ok-of_refusal-in-Err-TooLong-clause-leads : goal.returns-in_ok-of_refusal-in-Err-TooLong-clause-leads
returns-in_ok-of_refusal-in-Err-TooLong-clause-leads g c =
    let is = ap (λ e. Err e) c.in-Err-TooLong.field-0-is in
    let taken = c.in-Err-TooLong.ensures.long in
    let some = long_input (g.S.Source.left c.args.source.now) taken.0 (taken.2.0 is) (c.in-Err-TooLong.ensures.too_long is) in
    text_leads _ c.in_ok-of_refusal-in-Err-TooLong.field-0
    (long_right (map (λ w. w.now) c.args.words.now) (g.S.Source.left c.args.source.now) _ _ _ c.in-Ok.command (sym c.in-Ok.ensures.meaning) some.0 some.1 (search rules) some.2 (c.in-Err-TooLong.ensures.too_long is) _ c.in_ok-of_refusal-in-Err-TooLong.ensures)

pub returns-in_ok-of_read_fault-in-Err-ReadFault-clause-leads : goal.returns-in_ok-of_read_fault-in-Err-ReadFault-clause-leads
returns-in_ok-of_read_fault-in-Err-ReadFault-clause-leads g c =
    let rose = c.in-Err-ReadFault.ensures.fault (ap (λ e. Err e) c.in-Err-ReadFault.field-0-is) in
    text_leads _ c.in_ok-of_read_fault-in-Err-ReadFault.field-0
    (fault_right (map (λ w. w.now) c.args.words.now) (g.S.Source.left c.args.source.now) _ _ _ c.in-Ok.command (sym c.in-Ok.ensures.meaning) (search rules) rose _ c.in_ok-of_read_fault-in-Err-ReadFault.ensures)

pub returns-then-not-reads_input-clause-leads : goal.returns-then-not-reads_input-clause-leads
returns-then-not-reads_input-clause-leads g c =
    let unread : reads c.in-Ok.command ≡ false = search rules in
    IfOk-weaker c.prepare_for.result _ _
    (λ p leads. leads_wider _ _ (λ o of. unread_right (map (λ w. w.now) c.args.words.now) (g.S.Source.left c.args.source.now) _ _ _ c.in-Ok.command (sym c.in-Ok.ensures.meaning) unread _ o of) p leads)
    c.prepare_for.ensures.leads
