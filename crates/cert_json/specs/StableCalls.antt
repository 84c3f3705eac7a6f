-- Calls: what the reader promises.
use Rattle.std.specs.Prelude.{◌≡◌, ◌≢◌, length, Result, IfOk, IfErr}
use Rattle.serde_json.specs.Data.{Data}
use Rattle.base_json.specs.declared.fault.FormatFault.{FormatFault}
use Rattle.base_json.specs.declared.fault.FormatFault.TheVariants.{NoMemory}
use Rattle.base_json.specs.Faults.{GivesRead}
use Rattle.cert_json.specs.declared.stable.StableBundle.{StableBundle}
use Rattle.cert_json.specs.StableFile.{IsStableFile}
use Rattle.cert_json.specs.StableBundles.{stable_bundle_at}

-- The result of reading a value as a bundle with goals. Exactly the files of such bundles are read, each to its bundle.
pub record IsReadStable (d : Data) (result : Result StableBundle FormatFault) : Type 0 where
  -- member by member, each fault and its path
  pub exact : GivesRead (λ bundle. bundle) result (stable_bundle_at d)
  pub variables : IfOk result (λ bundle. bundle.pred.variables ≡ length bundle.net.variables)
  pub file : IfOk result (λ bundle. IsStableFile bundle d)
  pub no_file : IfErr result (λ fault. fault ≢ NoMemory → (bundle : StableBundle) → IsStableFile bundle d → ⊥)
