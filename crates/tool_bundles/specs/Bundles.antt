-- The bundle of a line, how its net starts, and the limits that the check needs.
use Rattle.std.specs.Prelude.{◌≡◌, ℕ, List, length, Option, Some, None, Result, Ok, Err}
use Rattle.serde_json.specs.Data.{Data}
use Rattle.cert_base.specs.StableProof.{IsStableProofWithin}
use Rattle.cert_json.specs.StableBundles.{stable_bundle_at}
use Rattle.cert_json.specs.declared.stable.StableBundle.{StableBundle}
use Rattle.tool_texts.specs.declared.refusal.Refusal.{Refusal}
use Rattle.tool_texts.specs.declared.refusal.Refusal.TheVariants.{NotJson}
use Rattle.tool_texts.specs.Steps.{◌>>=◌}
use Rattle.tool_texts.specs.Json.{HasValue}
use Rattle.tool_bundles.specs.Start.{formatted, fitting_in}

-- the bundle of a line that has this value, or no JSON
abbrev pub bundle_in : Option Data → Result StableBundle Refusal
bundle_in None = Err NotJson
bundle_in (Some d) = formatted (stable_bundle_at d)

-- the bundle of this line, or why it is refused
abbrev pub IsBundleOf : List ℕ → Result StableBundle Refusal → Type 0
IsBundleOf line bundle = (value : Option Data) × HasValue line value × (bundle ≡ bundle_in value)

-- the bundle, and the counts of a crowd line with which its net starts
unfoldable pub begun : Option Data → List ℕ → Result (StableBundle × List ℕ) Refusal
begun value line = do
  bundle ← bundle_in value
  counts ← fitting_in bundle.net line
  Ok (bundle, counts)

-- the bundle of the first line with the counts of the second, or why one of them is refused
abbrev pub IsBegunBy : List ℕ → List ℕ → Result (StableBundle × List ℕ) Refusal → Type 0
IsBegunBy first second begin = (value : Option Data) × HasValue first value × (begin ≡ begun value second)

-- the limits that the check needs
pub record IsBundleWithin (bundle : StableBundle) : Type 0 where
  pub variables : bundle.pred.variables ≡ length bundle.net.variables
  pub within : IsStableProofWithin (length bundle.net.variables) (length bundle.net.leaves) bundle.proof
