-- The order in which the value of a bundle with goals is examined: its net, its predicate, its proof.
use Rattle.std.specs.Prelude.{[], codes, length, Result, Ok}
use Rattle.serde_json.specs.Data.{Data}
use Rattle.base_json.specs.Faults.{Fault, ◌>>=◌}
use Rattle.base_json.specs.Shapes.{object_at, member_by}
use Rattle.pop_leaf.specs.NetModel.{NetModel}
use Rattle.net_json.specs.Examined.{net_at}
use Rattle.cert_json.specs.Examined.{pred_at}
use Rattle.cert_json.specs.declared.stable.StableBundle.{StableBundle}
use Rattle.cert_json.specs.StableExamined.{stable_proof_at}

-- the bundle of a net, with the predicate and the proof beside it
unfoldable pub stable_claim_at : NetModel → Data → Result StableBundle Fault
stable_claim_at net d = do
  p ← member_by [] (codes "pred") (pred_at net.variables) d
  proof ← stable_proof_at net.variables (length net.leaves) d
  Ok (record { net = net; pred = p; proof = proof })

unfoldable pub stable_bundle_at : Data → Result StableBundle Fault
stable_bundle_at d = do
  o ← object_at [] d
  net ← member_by [] (codes "net") net_at d
  stable_claim_at net d
