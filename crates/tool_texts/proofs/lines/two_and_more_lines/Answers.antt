use Rattle.base_lines.specs.Lines.{lines_of}
use Rattle.tool_texts.proofs.Short.{more_few}
use Rattle.tool_texts.proofs.Lined.{two_missing}
use Rattle.tool_texts.proofs.lines.two_and_more_lines.Goals as goal

pub returns-in-Err-clause-lines : goal.returns-in-Err-clause-lines
returns-in-Err-clause-lines c = rw c.refused.ensures (two_missing (lines_of c.args.input.now) c.in-Err.fault c.in-Err.ensures)

pub returns-in-Ok-clause-few : goal.returns-in-Ok-clause-few
returns-in-Ok-clause-few c = more_few c.args.input.now _ _ _ c.in-Ok.ensures
