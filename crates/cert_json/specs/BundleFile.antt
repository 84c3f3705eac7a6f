-- BundleFile: which JSON value is the file of which bundle. Members come in any order, and there may be others.
use Rattle.std.specs.Prelude.{codes, length}
use Rattle.serde_json.specs.Data.{Data}
use Rattle.base_json.specs.Parts.{HasMember}
use Rattle.net_json.specs.NetFile.{IsNetFile}
use Rattle.cert_base.specs.ProofLimits.{IsProofWithin}
use Rattle.cert_json.specs.declared.bundle.Bundle.{Bundle}
use Rattle.cert_json.specs.ProofFile.{IsPredText, IsProofFile}

pub record IsBundleFile (bundle : Bundle) (d : Data) : Type 0 where
  pub net : HasMember (codes "net") (IsNetFile bundle.net) d
  pub pred : HasMember (codes "pred") (IsPredText bundle.net.variables bundle.pred) d
  pub proof : IsProofFile bundle.net.variables bundle.proof d
  pub within : IsProofWithin (length bundle.net.variables) (length bundle.net.leaves) bundle.proof
