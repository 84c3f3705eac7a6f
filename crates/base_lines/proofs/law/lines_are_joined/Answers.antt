use Rattle.base_lines.proofs.Joined.{lines-joined}
use Rattle.base_lines.proofs.law.lines_are_joined.Goals as goal

pub returns : goal.returns
returns c bytes = lines-joined bytes
