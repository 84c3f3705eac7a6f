use Rattle.cert_show.proofs.Unbroken.{text_tells}
use Rattle.cert_show.proofs.law.text_tells.Goals as goal

pub returns : goal.returns
returns c = text_tells
