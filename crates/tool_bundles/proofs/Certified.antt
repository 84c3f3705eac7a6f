-- What a line with a bundle is.
use Rattle.std.proofs.Common.{◌≡◌, ℕ, List, Option, Some, None, Result, Ok, Err, ap}
use Rattle.serde_json.specs.Data.{Data}
use Rattle.base_json.specs.Faults.{Fault}
use Rattle.cert_json.specs.StableBundles.{stable_bundle_at}
use Rattle.cert_json.specs.declared.stable.StableBundle.{StableBundle}
use Rattle.tool_texts.specs.Json.{HasValue}
use Rattle.tool_bundles.specs.Start.{formatted}
use Rattle.tool_bundles.specs.Bundles.{bundle_in}

formatted_ok : (r : Result StableBundle Fault) (bundle : StableBundle) → formatted r ≡ Ok bundle → r ≡ Ok bundle
formatted_ok (Ok b) bundle e = let same : b ≡ bundle = cc in ap (λ (x : StableBundle). Ok x) same
formatted_ok (Err fault) bundle e = absurd cc

pub some_value : (line : List ℕ) (value : Option Data) (bundle : StableBundle) → HasValue line value → bundle_in value ≡ Ok bundle → (d : Data) × HasValue line (Some d) × (stable_bundle_at d ≡ Ok bundle)
some_value line None bundle has e = absurd cc
some_value line (Some d) bundle has e = (d, has, formatted_ok (stable_bundle_at d) bundle e)
