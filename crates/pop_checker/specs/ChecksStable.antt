-- ChecksStable: what `check_stable` says of a net, a predicate and a proof.
use Rattle.std.specs.Prelude.{◌≡◌, ℕ, Result, IfOk, OnOk}
use Rattle.pop_io.specs.declared.failure.Failure.{Failure}
use Rattle.pop_io.specs.Failures.{IfFault, OnlyMemory}
use Rattle.pres_ast.specs.PredModel.{PredModel}
use Rattle.pop_leaf.specs.NetModel.{NetModel}
use Rattle.cert_base.specs.declared.stable.StableProof.{StableProof}
use Rattle.pop_checker.specs.declared.stable_fault.StableRejected.{StableRejected}
use Rattle.pop_checker.specs.ValidStable.{ValidStableProof, stable_bound}
use Rattle.pop_checker.specs.StableRejections.{IsStableRejected}

-- the proof is valid, and this is its bound; or this is the first part that fails
pub record ChecksStable (net : NetModel) (p : PredModel) (proof : StableProof)
    (result : Result ℕ (Failure StableRejected)) : Type 0 where
  pub valid : OnOk result (ValidStableProof net p proof)
  pub bound : IfOk result (λ bound. bound ≡ stable_bound proof)
  pub fault : IfFault result (IsStableRejected net p proof)
  pub accepts : ValidStableProof net p proof → OnlyMemory result
