use Rattle.std.proofs.Common.{length}
use Rattle.serde_json.specs.View.{view}
use Rattle.cert_json.proofs.ProofLaws.{read-file, read-within, broken-no_file}
use Rattle.cert_json.proofs.read.read_proof.Goals as goal

pub returns : goal.returns
returns c =
    let names = c.args.net.now.variables in
    let leaves = length c.args.net.now.leaves in
    let d = view c.args.value.now in
    let exact = c.proof_of.ensures in
    record {
      exact = exact;
      within = read-within names leaves d c.proof_of.result exact;
      file = read-file names leaves d c.proof_of.result exact;
      no_file = broken-no_file names leaves d c.proof_of.result exact;
    }
