use Rattle.cert_text.proofs.ReadBack.{read_back}
use Rattle.cert_text.proofs.law.bundles_are_read_back.Goals as goal

pub returns : goal.returns
returns c = read_back
