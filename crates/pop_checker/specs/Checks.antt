-- Checks: what `check` says of a net, a predicate and a proof.
use Rattle.std.specs.Prelude.{◌≡◌, Result, IfOk, OnOk}
use Rattle.pop_io.specs.declared.failure.Failure.{Failure}
use Rattle.pop_io.specs.Failures.{IfFault, OnlyMemory}
use Rattle.pres_ast.specs.PredModel.{PredModel}
use Rattle.pop_leaf.specs.NetModel.{NetModel}
use Rattle.cert_base.specs.declared.proof.Proof.{Proof}
use Rattle.cert_base.specs.ProofBound.{proof_bound}
use Rattle.cert_base.specs.ValidProof.{ValidProof}
use Rattle.pop_checker.specs.declared.fault.Rejected.{Rejected}
use Rattle.pop_checker.specs.CheckedModel.{CheckedModel}
use Rattle.pop_checker.specs.Rejections.{IsRejected}
use Rattle.pop_checker.specs.Sound.{IsRight}

-- the proof is valid, and the answer keeps the net; or this is the first part that fails
pub record Checks (net : NetModel) (p : PredModel) (proof : Proof) (result : Result CheckedModel (Failure Rejected))
    : Type 0 where
  pub valid : OnOk result (ValidProof net p proof)
  -- the net computes the predicate, and if no two moves of a leaf take the same states, meetings alone lead to its end
  pub right : OnOk result (IsRight net p proof)
  pub fault : IfFault result (IsRejected net p proof)
  pub accepts : ValidProof net p proof → OnlyMemory result
  pub kept : IfOk result (λ checked. checked ≡ record { net = net; pred = p; bound = proof_bound proof })
