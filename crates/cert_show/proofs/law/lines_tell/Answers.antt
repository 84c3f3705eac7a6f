use Rattle.cert_show.proofs.LinesTell.{lines_tell}
use Rattle.cert_show.proofs.law.lines_tell.Goals as goal

pub returns : goal.returns
returns c = lines_tell
