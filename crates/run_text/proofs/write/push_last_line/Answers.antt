use Rattle.std.proofs.Common.{◌≡◌, true, ap, ◌∙◌}
use Rattle.run_text.specs.declared.last.Last.TheVariants.{Verdict}
use Rattle.run_text.proofs.Texts.{where_ok}
use Rattle.run_text.proofs.write.push_last_line.Goals as goal

pub returns-in-Verdict-true : goal.returns-in-Verdict-true
returns-in-Verdict-true c =
    let last : c.args.last ≡ Verdict true = c.in-Verdict-true.is ∙ ap Verdict c.in-Verdict-true.field-0-test in
    rw last (where_ok c.extend_from_slice.result _ _ _ c.extend_from_slice.ensures.items)
