-- Calls: what the reader promises.
use Rattle.std.specs.Prelude.{◌≢◌, length, Result, IfOk, IfErr}
use Rattle.serde_json.specs.Data.{Data}
use Rattle.base_json.specs.declared.fault.FormatFault.{FormatFault}
use Rattle.base_json.specs.declared.fault.FormatFault.TheVariants.{NoMemory}
use Rattle.base_json.specs.Faults.{GivesRead}
use Rattle.pop_leaf.specs.NetModel.{NetModel}
use Rattle.cert_base.specs.declared.proof.Proof.{Proof}
use Rattle.cert_base.specs.ProofLimits.{IsProofWithin}
use Rattle.cert_json.specs.ProofFile.{IsProofFile}
use Rattle.cert_json.specs.Examined.{proof_at}

-- The result of reading a bundle's value as the proof for this net. Exactly the files of proofs within the limits are
-- read, each to its proof.
pub record IsReadProof (net : NetModel) (d : Data) (result : Result Proof FormatFault) : Type 0 where
  pub exact : GivesRead (λ proof. proof) result (proof_at net.variables (length net.leaves) d)
  pub within : IfOk result (IsProofWithin (length net.variables) (length net.leaves))
  pub file : IfOk result (λ proof. IsProofFile net.variables proof d)
  pub no_file : IfErr result (λ fault. fault ≢ NoMemory → (proof : Proof) → IsProofFile net.variables proof d
      → IsProofWithin (length net.variables) (length net.leaves) proof → ⊥)
