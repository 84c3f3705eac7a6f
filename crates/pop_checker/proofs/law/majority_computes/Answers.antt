use Rattle.pop_checker.proofs.MajorityProof.{majority_is}
use Rattle.pop_checker.proofs.law.majority_computes.Goals as goal

pub returns : goal.returns
returns c = majority_is
