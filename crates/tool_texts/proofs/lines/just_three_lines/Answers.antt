use Rattle.base_lines.specs.Lines.{lines_of}
use Rattle.tool_texts.proofs.Lined.{not_three}
use Rattle.tool_texts.proofs.lines.just_three_lines.Goals as goal

pub returns-in-Err : goal.returns-in-Err
returns-in-Err c = rw c.refused.ensures (not_three (lines_of c.args.input.now) c.in-Err.fault c.in-Err.ensures)
