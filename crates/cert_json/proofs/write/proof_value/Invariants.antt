use Rattle.std.proofs.Common.{◌≡◌, ◌<◌, ℕ, map, take, length, get_or}
use Rattle.serde_json.specs.View.{view}
use Rattle.pres_ast.specs.PredModel.{IsPred}
use Rattle.cert_base.specs.declared.proof.LeafProof.{LeafProof}
use Rattle.cert_json.specs.Written.{leaf_proof_data}
use Rattle.cert_json.proofs.write.proof_value.Given as goal

abbrev pub invariant-loop-part : goal.invariant-loop-part
invariant-loop-part l =
    (map view l.list.items ≡ map (leaf_proof_data l.names) (take l.part-index l.parts))
    × ((k : ℕ) → k < l.part-index → (d : LeafProof) → IsPred (length l.names) (get_or l.parts k d).pred.tree)
