use Rattle.cert_json.specs.Written.{proof_data}
use Rattle.cert_text.proofs.proof.write_proof.Goals as goal

pub returns : goal.returns
unfolding proof_data
returns c = rw c.as_slice-parts.ensures at c.in_ok-write_list.ensures
