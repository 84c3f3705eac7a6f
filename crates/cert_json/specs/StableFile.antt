-- StableFile: which JSON value is the file of which bundle whose leaves may have goals.
use Rattle.std.specs.Prelude.{codes, length}
use Rattle.serde_json.specs.Data.{Data}
use Rattle.base_json.specs.Parts.{HasMember, IsList}
use Rattle.net_json.specs.NetFile.{IsNetFile}
use Rattle.cert_base.specs.StableProof.{IsStableProofWithin}
use Rattle.cert_json.specs.ProofFile.{IsPredText}
use Rattle.cert_json.specs.declared.stable.StableBundle.{StableBundle}
use Rattle.cert_json.specs.PartFile.{IsPartFile}

-- a net, a predicate and a part of the proof for each leaf
pub record IsStableFile (bundle : StableBundle) (d : Data) : Type 0 where
  pub net : HasMember (codes "net") (IsNetFile bundle.net) d
  pub pred : HasMember (codes "pred") (IsPredText bundle.net.variables bundle.pred) d
  pub proof : HasMember (codes "proof") (IsList (IsPartFile bundle.net.variables) bundle.proof.leaves) d
  pub within : IsStableProofWithin (length bundle.net.variables) (length bundle.net.leaves) bundle.proof
