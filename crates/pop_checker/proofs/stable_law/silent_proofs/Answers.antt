use Rattle.pop_checker.proofs.SilentParts.{silent_proofs}
use Rattle.pop_checker.proofs.stable_law.silent_proofs.Goals as goal

pub returns : goal.returns
returns c = silent_proofs
